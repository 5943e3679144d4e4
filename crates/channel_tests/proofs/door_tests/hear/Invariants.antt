use Rattle.std.proofs.Common.{◌≡◌}
use Rattle.outside.specs.declared.door.DoorState.TheVariants.{Open}
use Rattle.channel_tests.proofs.door_tests.hear.Given as goal

abbrev pub invariant-loop : goal.invariant-loop
invariant-loop g l = g.D.Door.state l.door ≡ Open l.port
