use Rattle.std.proofs.Common.{◌≡◌, rules, ap}
use Rattle.heap_meaning.specs.Values.{Direct}
use Rattle.heap_meaning.specs.declared.plain.Plain.TheVariants.{Invalid, Truth, Small, Big}
use Rattle.plain_operations.specs.Outcome.{outcome_of}
use Rattle.brs_builtins.specs.Operands.{answer_of}
use Rattle.brs_builtins.proofs.DeliverLaws.{delivers_plain, delivers_text}
use Rattle.brs_builtins.proofs.outcomes.deliver.Goals as goal

pub returns-in-Invalid-clause-answer : goal.returns-in-Invalid-clause-answer
returns-in-Invalid-clause-answer c = delivers_plain c.args.heap.now c.plain.result Invalid (outcome_of c.args.outcome) c.plain.ensures (λ store. ap (λ x. answer_of (outcome_of x) store) c.in-Invalid.is)

pub returns-in-Boolean-clause-answer : goal.returns-in-Boolean-clause-answer
returns-in-Boolean-clause-answer c = delivers_plain c.args.heap.now c.plain-in-Boolean.result (Truth c.in-Boolean.b) (outcome_of c.args.outcome) c.plain-in-Boolean.ensures (λ store. ap (λ x. answer_of (outcome_of x) store) c.in-Boolean.is)

pub returns-in-Integer-clause-answer : goal.returns-in-Integer-clause-answer
returns-in-Integer-clause-answer c =
    let e : c.plain-in-Integer.result ≡ Direct (Small c.in-Integer.n) = search rules in
    delivers_plain c.args.heap.now c.plain-in-Integer.result (Small c.in-Integer.n) (outcome_of c.args.outcome) e (λ store. ap (λ x. answer_of (outcome_of x) store) c.in-Integer.is)

pub returns-in-LongInteger-clause-answer : goal.returns-in-LongInteger-clause-answer
returns-in-LongInteger-clause-answer c =
    let e : c.plain-in-LongInteger.result ≡ Direct (Big c.in-LongInteger.n) = search rules in
    delivers_plain c.args.heap.now c.plain-in-LongInteger.result (Big c.in-LongInteger.n) (outcome_of c.args.outcome) e (λ store. ap (λ x. answer_of (outcome_of x) store) c.in-LongInteger.is)

pub returns-in_ok-make_text-in-Words-clause-answer : goal.returns-in_ok-make_text-in-Words-clause-answer
returns-in_ok-make_text-in-Words-clause-answer c =
    delivers_text c.args.heap.now c.make_text.new.self c.in_ok-make_text-in-Words.field-0 c.in-Words.text (outcome_of c.args.outcome) (λ store. ap (λ x. answer_of (outcome_of x) store) c.in-Words.is) c.in_ok-make_text-in-Words.ensures.made
