use Rattle.plain_operations.specs.Outcome.{outcome_of}
use Rattle.plain_operations.specs.Functions.{function_result}
use Rattle.object_operations.proofs.Answering.{through}
use Rattle.brs_builtins.proofs.DeliverLaws.{applied_to_operands}
use Rattle.brs_builtins.proofs.outcomes.apply_function.Goals as goal

pub returns-clause-answer : goal.returns-clause-answer
returns-clause-answer c = through c.deliver.result (λ r x. applied_to_operands c.args.heap.now c.deliver.new.heap c.args.arguments.now r (outcome_of c.in_ok-outcome.outcome) (function_result c.args.function) c.in_ok-outcome.ensures x) c.deliver.ensures.answer
