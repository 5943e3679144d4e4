use Rattle.std.proofs.Common.{codes}
use Rattle.ecp_requests.proofs.TargetsLemmas.{stripped, asks_keypress, asks_keydown, asks_keyup, keypress_asked, keydown_asked, keyup_asked}
use Rattle.ecp_requests.proofs.target.target_request.Goals as goal

pub returns-in-Some-clause-asked : goal.returns-in-Some-clause-asked
returns-in-Some-clause-asked c =
    asks_keypress c.args.target.now c.in-Some.name.now c.named_request.result (stripped c.args.target.now (codes "/keypress/") c.in-Some.name.now c.in-Some.ensures.cases)
    c.named_request.ensures.asked

pub returns-in-Some-clause-found : goal.returns-in-Some-clause-found
returns-in-Some-clause-found c request asks =
    let is = stripped c.args.target.now (codes "/keypress/") c.in-Some.name.now c.in-Some.ensures.cases in
    c.named_request.ensures.found request (keypress_asked c.args.target.now c.in-Some.name.now request is asks)

pub returns-in-Some-strip_prefix-clause-asked : goal.returns-in-Some-strip_prefix-clause-asked
returns-in-Some-strip_prefix-clause-asked c =
    asks_keydown c.args.target.now c.in-Some-strip_prefix.name.now c.named_request-in-Some-strip_prefix.result (stripped c.args.target.now (codes "/keydown/") c.in-Some-strip_prefix.name.now c.in-Some-strip_prefix.ensures.cases)
    c.named_request-in-Some-strip_prefix.ensures.asked

pub returns-in-Some-strip_prefix-clause-found : goal.returns-in-Some-strip_prefix-clause-found
returns-in-Some-strip_prefix-clause-found c request asks =
    let is = stripped c.args.target.now (codes "/keydown/") c.in-Some-strip_prefix.name.now c.in-Some-strip_prefix.ensures.cases in
    c.named_request-in-Some-strip_prefix.ensures.found request (keydown_asked c.args.target.now c.in-Some-strip_prefix.name.now request is asks)

pub returns-in-Some-strip_prefix-2-clause-asked : goal.returns-in-Some-strip_prefix-2-clause-asked
returns-in-Some-strip_prefix-2-clause-asked c =
    asks_keyup c.args.target.now c.in-Some-strip_prefix-2.name.now c.named_request-in-Some-strip_prefix-2.result (stripped c.args.target.now (codes "/keyup/") c.in-Some-strip_prefix-2.name.now c.in-Some-strip_prefix-2.ensures.cases)
    c.named_request-in-Some-strip_prefix-2.ensures.asked

pub returns-in-Some-strip_prefix-2-clause-found : goal.returns-in-Some-strip_prefix-2-clause-found
returns-in-Some-strip_prefix-2-clause-found c request asks =
    let is = stripped c.args.target.now (codes "/keyup/") c.in-Some-strip_prefix-2.name.now c.in-Some-strip_prefix-2.ensures.cases in
    c.named_request-in-Some-strip_prefix-2.ensures.found request (keyup_asked c.args.target.now c.in-Some-strip_prefix-2.name.now request is asks)
