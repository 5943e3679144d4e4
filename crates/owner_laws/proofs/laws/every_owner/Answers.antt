use Rattle.owner_laws.proofs.Steps.{steps_own}
use Rattle.owner_laws.proofs.Events.{opens_own, events_own}
use Rattle.owner_laws.proofs.laws.every_owner.Goals as goal

pub returns-clause-opening : goal.returns-clause-opening
returns-clause-opening c = opens_own c.nodes_come_from_outside.ensures.call

pub returns-clause-step : goal.returns-clause-step
returns-clause-step c = steps_own c.nodes_come_from_outside.ensures.step c.nodes_come_from_outside.ensures.answer c.nodes_come_from_outside.ensures.call

pub returns-clause-event : goal.returns-clause-event
returns-clause-event c = events_own c.nodes_come_from_outside.ensures.step c.nodes_come_from_outside.ensures.answer c.nodes_come_from_outside.ensures.call
