use Rattle.step_laws.proofs.CountingSteps.{step_counts}
use Rattle.step_laws.proofs.CountingEvents.{opening_counts, event_counts}
use Rattle.step_laws.proofs.laws.every_count.Goals as goal

pub returns-clause-opening : goal.returns-clause-opening
returns-clause-opening c = opening_counts

pub returns-clause-step : goal.returns-clause-step
returns-clause-step c = step_counts

pub returns-clause-event : goal.returns-clause-event
returns-clause-event c = event_counts
