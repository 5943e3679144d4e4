use Rattle.step_laws.proofs.OwningEvents.{step_owners, event_owners}
use Rattle.step_laws.proofs.laws.every_owner_stays.Goals as goal

pub returns-clause-step : goal.returns-clause-step
returns-clause-step c = step_owners

pub returns-clause-event : goal.returns-clause-event
returns-clause-event c = event_owners
