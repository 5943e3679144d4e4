use Rattle.std.proofs.Common.{◌≡◌, ◌≤◌, ◌-◌, length}
use Rattle.outside.specs.declared.door.DoorState.TheVariants.{Open}
use Rattle.channel_tests.proofs.door_tests.answer.Given as goal

abbrev pub invariant-loop-written : goal.invariant-loop-written
invariant-loop-written g l =
    record {
      in_range : l.written ≤ length l.reply;
      state : g.D.Door.state l.door ≡ Open l.port;
    }

abbrev pub decreases-loop-written : goal.decreases-loop-written
decreases-loop-written g l = length l.reply - l.written
