use Rattle.field_observers.proofs.Times.{drops}
use Rattle.field_observers.proofs.laws.dropped_registrations_are_of_their_field.Goals as goal

pub returns : goal.returns
returns c = λ all node field n f. drops node field n f all
