use Rattle.std.proofs.Common.{◌≡◌}
use Rattle.outside.specs.declared.door.DoorState.TheVariants.{Closed}
use Rattle.channel_tests.proofs.door_tests.door_of.Given as goal

abbrev pub invariant-loop-incoming : goal.invariant-loop-incoming
invariant-loop-incoming l = l.door.state ≡ Closed
