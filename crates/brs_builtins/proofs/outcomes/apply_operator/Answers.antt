use Rattle.plain_operations.specs.Outcome.{outcome_of}
use Rattle.brs_builtins.specs.Outcomes.{operator_outcome}
use Rattle.object_operations.proofs.Answering.{through}
use Rattle.brs_builtins.proofs.DeliverLaws.{applied_to_operands}
use Rattle.brs_builtins.proofs.outcomes.apply_operator.Goals as goal

pub returns-clause-answer : goal.returns-clause-answer
returns-clause-answer c = through c.deliver.result (λ r x. applied_to_operands c.args.heap.now c.deliver.new.heap c.args.arguments.now r (outcome_of c.in_ok-outcome.outcome) (operator_outcome c.args.operator) c.in_ok-outcome.ensures x) c.deliver.ensures.answer
