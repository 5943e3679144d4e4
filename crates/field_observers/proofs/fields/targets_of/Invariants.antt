use Rattle.std.proofs.Common.{◌≡◌, take, map}
use Rattle.field_observers.specs.Registered.{target_of}
use Rattle.field_observers.proofs.fields.targets_of.Given as goal

abbrev pub invariant-loop-registration : goal.invariant-loop-registration
invariant-loop-registration l = l.list ≡ map target_of (take l.registration-index l.registrations)
