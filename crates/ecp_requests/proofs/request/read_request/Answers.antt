use Rattle.std.proofs.Common.{refl, subst}
use Rattle.std.proofs.lemmas.Bool.{false≢true}
use Rattle.ecp_requests.specs.Answers.{head, bad_head, more}
use Rattle.ecp_requests.specs.Heads.{IsFront, HasNoFront}
use Rattle.ecp_requests.proofs.AnswersLemmas.{only_head, only_bad_head, only_more}
use Rattle.ecp_requests.proofs.request.read_request.Goals as goal

pub returns-in-Some-clause-answer : goal.returns-in-Some-clause-answer
returns-in-Some-clause-answer c =
    let front = subst (λ b. IsFront b c.in-Some.method.now c.in-Some.target.now) c.head_room.ensures c.in-Some.ensures.head in
    head c.in-Some.method.now c.in-Some.target.now front c.head_request.ensures.answer

pub returns-in-Some-clause-only : goal.returns-in-Some-clause-only
returns-in-Some-clause-only c answer is =
    let front = subst (λ b. IsFront b c.in-Some.method.now c.in-Some.target.now) c.head_room.ensures c.in-Some.ensures.head in
    only_head c.args.bytes.now c.in-Some.method.now c.in-Some.target.now c.head_request.result answer front c.head_request.ensures.only is

pub returns-then-is_over-clause-answer : goal.returns-then-is_over-clause-answer
returns-then-is_over-clause-answer c = bad_head (subst HasNoFront c.head_room.ensures c.in-None.ensures.none) (c.if-is_over.ensures.0 refl) refl

pub returns-then-is_over-clause-only : goal.returns-then-is_over-clause-only
returns-then-is_over-clause-only c answer is =
    only_bad_head c.args.bytes.now answer (subst HasNoFront c.head_room.ensures c.in-None.ensures.none) (c.if-is_over.ensures.0 refl) is

pub returns-else-is_over-clause-answer : goal.returns-else-is_over-clause-answer
returns-else-is_over-clause-answer c =
    more (subst HasNoFront c.head_room.ensures c.in-None.ensures.none) (λ over. false≢true (c.if-is_over.ensures.1 over)) refl

pub returns-else-is_over-clause-only : goal.returns-else-is_over-clause-only
returns-else-is_over-clause-only c answer is =
    only_more c.args.bytes.now answer (subst HasNoFront c.head_room.ensures c.in-None.ensures.none) (λ over. false≢true (c.if-is_over.ensures.1 over)) is
