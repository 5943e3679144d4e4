use Rattle.std.proofs.Common.{◌-◌, rules, arith}
use Rattle.object_operations.proofs.ArrayLaws.{handed}
use Rattle.object_operations.proofs.ArrayLoops.{clear_start, clear_step, clears}
use Rattle.object_operations.proofs.arrays.clear.Goals as goal

pub loop-left-init : goal.loop-left-init
loop-left-init c = record { becomes = clear_start c.args.heap.now c.args.array.now c.length-left.result c.length-left.ensures; shares = search rules }

pub loop-left-preserved : goal.loop-left-preserved
loop-left-preserved c = record { becomes = clear_step c.args.heap.now c.loop-left.heap c.drop_item.new.heap c.args.array.now c.loop-left.left (c.loop-left.left - 1) (omega arith) c.loop-left.invariant.becomes c.drop_item.ensures.dropped; shares = search rules }

pub returns-clause-answer : goal.returns-clause-answer
returns-clause-answer c = handed c.plain.ensures (clears c.args.heap.now c.loop-left.heap c.args.array.now c.loop-left.left (omega arith) c.loop-left.invariant.becomes)
