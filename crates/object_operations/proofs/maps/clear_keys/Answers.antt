use Rattle.std.proofs.Common.{◌-◌, rules, arith}
use Rattle.object_operations.proofs.MapLaws.{map_handed}
use Rattle.object_operations.proofs.MapLoops.{clear_keys_start, clear_keys_step, clears_keys}
use Rattle.object_operations.proofs.maps.clear_keys.Goals as goal

pub loop-left-init : goal.loop-left-init
loop-left-init c = record { becomes = clear_keys_start c.args.heap.now c.args.pairs.now c.length-left.result c.length-left.ensures; shares = search rules }

pub loop-left-preserved : goal.loop-left-preserved
loop-left-preserved c = record { becomes = clear_keys_step c.args.heap.now c.loop-left.heap c.drop_key.new.heap c.args.pairs.now c.loop-left.left (c.loop-left.left - 1) (omega arith) c.loop-left.invariant.becomes c.in_ok-drop_key.ensures.dropped; shares = search rules }

pub returns-clause-answer : goal.returns-clause-answer
returns-clause-answer c = map_handed c.plain.ensures (clears_keys c.args.heap.now c.loop-left.heap c.args.pairs.now c.loop-left.left (omega arith) c.loop-left.invariant.becomes)
