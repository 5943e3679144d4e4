use Rattle.field_observers.proofs.Times.{comes_last}
use Rattle.field_observers.proofs.laws.a_registration_comes_last.Goals as goal

pub returns : goal.returns
returns c = comes_last
