use Rattle.std.proofs.Common.{◌≡◌, ◌+◌, min, sum_by, take}
use Rattle.channel_run.specs.FirstLines.{asked_by}
use Rattle.channel_run.proofs.first_run.steps_asked.Given as goal

abbrev pub invariant-loop-event : goal.invariant-loop-event
invariant-loop-event l = l.asked ≡ min (sum_by asked_by (take l.event-index l.events)) (l.bound + 1)
