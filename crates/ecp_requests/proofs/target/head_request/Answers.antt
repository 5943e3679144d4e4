use Rattle.std.proofs.Common.{refl}
use Rattle.std.proofs.lemmas.Bool.{false≢true}
use Rattle.ecp_requests.specs.Targets.{asked, bad_method, not_found}
use Rattle.ecp_requests.proofs.HeadAnswers.{only_asked, only_bad_method, only_not_found, nothing_asked}
use Rattle.ecp_requests.proofs.target.head_request.Goals as goal

pub returns-then-is_post-clause-answer : goal.returns-then-is_post-clause-answer
returns-then-is_post-clause-answer c = asked c.in-Some.ensures.asked (c.if-is_post.ensures.0 refl)

pub returns-then-is_post-clause-only : goal.returns-then-is_post-clause-only
returns-then-is_post-clause-only c answer is =
    only_asked c.args.method.now c.args.target.now c.in-Some.request answer c.in-Some.ensures.asked c.in-Some.ensures.found (c.if-is_post.ensures.0 refl) is

pub returns-else-is_post-clause-answer : goal.returns-else-is_post-clause-answer
returns-else-is_post-clause-answer c =
    bad_method c.in-Some.request c.in-Some.ensures.asked (λ e. false≢true (c.if-is_post.ensures.1 e)) refl

pub returns-else-is_post-clause-only : goal.returns-else-is_post-clause-only
returns-else-is_post-clause-only c answer is =
    only_bad_method c.args.method.now c.args.target.now c.in-Some.request answer c.in-Some.ensures.asked (λ e. false≢true (c.if-is_post.ensures.1 e)) is

pub returns-in-None-clause-answer : goal.returns-in-None-clause-answer
returns-in-None-clause-answer c = not_found (nothing_asked c.args.target.now c.in-None.ensures.found) refl

pub returns-in-None-clause-only : goal.returns-in-None-clause-only
returns-in-None-clause-only c answer is =
    only_not_found c.args.method.now c.args.target.now answer (nothing_asked c.args.target.now c.in-None.ensures.found) is
