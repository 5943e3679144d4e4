use Rattle.brs_meaning.specs.NodeLaws.{In}
use Rattle.brs_meaning.proofs.NodesOfSteps.{step_names, reply_names, call_names}
use Rattle.brs_meaning.proofs.laws.nodes_come_from_outside.Goals as goal

pub returns-clause-step : goal.returns-clause-step
returns-clause-step c = λ nodes. step_names (In nodes)

pub returns-clause-answer : goal.returns-clause-answer
returns-clause-answer c = λ nodes. reply_names (In nodes)

pub returns-clause-call : goal.returns-clause-call
returns-clause-call c = λ nodes. call_names (In nodes)
