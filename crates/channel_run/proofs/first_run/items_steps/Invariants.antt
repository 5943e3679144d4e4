use Rattle.std.proofs.Common.{◌≡◌, ◌-◌, ◌^◌, min, take, sum_by}
use Rattle.channel_run.specs.FirstLines.{item_steps}
use Rattle.channel_run.proofs.first_run.items_steps.Given as goal

abbrev pub invariant-loop-item : goal.invariant-loop-item
invariant-loop-item l = l.steps ≡ min (sum_by item_steps (take l.item-index l.items)) (2 ^ 64 - 1)
