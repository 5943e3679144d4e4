use Rattle.std.proofs.Common.{◌≡◌, ◌≤◌}
use Rattle.outside.specs.declared.door.DoorState.TheVariants.{Listening}
use Rattle.channel_tests.proofs.door_tests.serve_all.Given as goal

abbrev pub invariant-loop : goal.invariant-loop
invariant-loop g l =
    record {
      state : g.D.Door.state l.door ≡ Listening l.port;
      few : l.failed ≤ l.counter;
    }
