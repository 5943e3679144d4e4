use Rattle.script_text.proofs.LinesLemmas.{press_found}
use Rattle.script_text.proofs.read.read_press.Goals as goal

pub returns-in-Some-clause-found : goal.returns-in-Some-clause-found
returns-in-Some-clause-found c event says =
    let press = press_found c.args.text.now c.args.pressed event says in
    let found = c.in-Some.ensures.found press.key press.in_range press.spelled in
    let is = press.is in
    cc

pub returns-in-None-clause-found : goal.returns-in-None-clause-found
returns-in-None-clause-found c event says =
    let press = press_found c.args.text.now c.args.pressed event says in
    let found = c.in-None.ensures.found press.key press.in_range press.spelled in
    cc
