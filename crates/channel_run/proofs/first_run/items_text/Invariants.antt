use Rattle.std.proofs.Common.{◌≡◌, flat_map, take}
use Rattle.channel_run.specs.FirstLines.{item_text}
use Rattle.channel_run.specs.FirstLocals.{numbers_in}
use Rattle.channel_run.proofs.first_run.items_text.Given as goal

abbrev pub invariant-loop-item : goal.invariant-loop-item
invariant-loop-item l = l.text ≡ flat_map (item_text (numbers_in l.locals)) (take l.item-index l.items)
