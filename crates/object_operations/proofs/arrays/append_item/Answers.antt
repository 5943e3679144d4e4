use Rattle.std.proofs.Common.{rules, sym, ◌∙◌}
use Rattle.object_operations.proofs.ArrayLoops.{append_item_none, append_item_some, none_of}
use Rattle.object_operations.proofs.arrays.append_item.Goals as goal

pub returns-in_default-clause-appended : goal.returns-in_default-clause-appended
returns-in_default-clause-appended c = append_item_none c.args.heap.now c.share_item.new.self c.args.array.now c.args.from.now c.args.at (none_of _ c.share_item.ensures.same c.in_default.not-Some) (search rules)

pub returns-in-Ok-clause-appended : goal.returns-in-Ok-clause-appended
returns-in-Ok-clause-appended c = append_item_some c.args.heap.now c.share_item.new.self c.insert.new.self c.args.array.now c.args.from.now c.in-Some.item c.args.at c.length-end.result (sym c.share_item.ensures.same ∙ c.in-Some.is) c.in-Some.ensures.moves c.length-end.ensures c.in-Ok.ensures.inserted
