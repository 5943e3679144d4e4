use Rattle.script_text.proofs.LinesLemmas.{turn_found, turn_has_space, turn_says}
use Rattle.script_text.proofs.read.read_turn_line.Goals as goal

pub returns-in_default-clause-found : goal.returns-in_default-clause-found
returns-in_default-clause-found c event says =
    absurd (turn_has_space c.args.rest.now event c.in_default.ensures says)

pub returns-in-Some-Some-clause-says : goal.returns-in-Some-Some-clause-says
returns-in-Some-Some-clause-says c =
    let front = c.in-Some-Some.ensures.spelled in
    let back = c.in-Some-Some.ensures'.spelled in
    turn_says c.args.rest.now c.in-Some.at c.in-Some-Some.actor c.in-Some-Some.steps front.0 back.0 c.in-Some.ensures front.1 back.1

pub returns-in-Some-Some-clause-found : goal.returns-in-Some-Some-clause-found
returns-in-Some-Some-clause-found c event says =
    let turn = turn_found c.args.rest.now c.in-Some.at event c.in-Some.ensures says in
    let actor = c.in-Some-Some.ensures.found turn.actor turn.actor_small turn.front in
    let steps = c.in-Some-Some.ensures'.found turn.steps turn.steps_small turn.back in
    let is = turn.is in
    cc

pub returns-in_default-2-clause-found : goal.returns-in_default-2-clause-found
returns-in_default-2-clause-found c event says =
    let turn = turn_found c.args.rest.now c.in-Some.at event c.in-Some.ensures says in
    let steps = c.in_default-2.ensures'.found turn.steps turn.steps_small turn.back in
    cc

pub returns-in_default-2-2-clause-found : goal.returns-in_default-2-2-clause-found
returns-in_default-2-2-clause-found c event says =
    let turn = turn_found c.args.rest.now c.in-Some.at event c.in-Some.ensures says in
    let actor = c.read_number.ensures.found turn.actor turn.actor_small turn.front in
    let none = c.in_default-2.is-0 in
    cc
