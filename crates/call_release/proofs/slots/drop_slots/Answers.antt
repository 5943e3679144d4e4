use Rattle.std.proofs.Common.{◌≡◌, length, arith}
use Rattle.frame_stack.specs.Frame.{slots_of}
use Rattle.call_release.proofs.Dropping.{cleared_none, cleared_more, cleared_count, cleared_all}
use Rattle.call_release.proofs.slots.drop_slots.Goals as goal

pub loop-i-init : goal.loop-i-init
loop-i-init c = cleared_none c.args.heap.now c.args.frames.now

pub pop_slot-slot-requires : goal.pop_slot-slot-requires
pop_slot-slot-requires c = cleared_count c.args.heap.now c.loop-i.heap c.args.frames.now c.loop-i.frames c.loop-i._i c.slot_count-count.result c.loop-i.invariant (omega arith) c.slot_count-count.ensures

pub loop-i-preserved : goal.loop-i-preserved
loop-i-preserved c = cleared_more c.args.heap.now c.loop-i.heap c.release_slot.new.heap c.args.frames.now c.loop-i.frames c.pop_slot-slot.new.self c.loop-i._i c.pop_slot-slot.result c.loop-i.invariant c.pop_slot-slot.ensures c.release_slot.ensures.moves c.release_slot.ensures.shares

pub returns-clause-moves : goal.returns-clause-moves
returns-clause-moves c =
    let e : c.loop-i._i ≡ length (slots_of c.args.frames.now) = omega (arith, c.slot_count-count.ensures) in
    let all = cleared_all c.args.heap.now c.loop-i.heap c.args.frames.now c.loop-i.frames c.loop-i._i e c.loop-i.invariant in
    all.moves

pub returns-clause-frames : goal.returns-clause-frames
returns-clause-frames c =
    let e : c.loop-i._i ≡ length (slots_of c.args.frames.now) = omega (arith, c.slot_count-count.ensures) in
    let all = cleared_all c.args.heap.now c.loop-i.heap c.args.frames.now c.loop-i.frames c.loop-i._i e c.loop-i.invariant in
    all.frames
