use Rattle.std.proofs.Common.{◌≡◌, length, arith}
use Rattle.call_release.proofs.Dropping.{freed_none, freed_more, freed_count, freed_all}
use Rattle.call_release.proofs.release.release_calls.Goals as goal

pub loop-i-init : goal.loop-i-init
loop-i-init c = freed_none c.args.heap.now c.args.frames.now

pub release_call-requires : goal.release_call-requires
release_call-requires c = freed_count c.args.heap.now c.loop-i.heap c.args.frames.now c.loop-i.frames c.loop-i._i c.call_count-count.result c.loop-i.invariant (omega arith) c.call_count-count.ensures

pub loop-i-preserved : goal.loop-i-preserved
loop-i-preserved c =
    let p = freed_count c.args.heap.now c.loop-i.heap c.args.frames.now c.loop-i.frames c.loop-i._i c.call_count-count.result c.loop-i.invariant (omega arith) c.call_count-count.ensures in
    freed_more c.args.heap.now c.loop-i.heap c.release_call.new.heap c.args.frames.now c.loop-i.frames c.release_call.new.frames c.loop-i._i c.loop-i.invariant p c.release_call.ensures.moves c.release_call.ensures.frames c.release_call.ensures.shares

pub returns-clause-moves : goal.returns-clause-moves
returns-clause-moves c =
    let e : c.loop-i._i ≡ length c.args.frames.now = omega (arith, c.call_count-count.ensures) in
    let all = freed_all c.args.heap.now c.loop-i.heap c.args.frames.now c.loop-i.frames c.loop-i._i e c.loop-i.invariant in
    all.moves

pub returns-clause-frames : goal.returns-clause-frames
returns-clause-frames c =
    let e : c.loop-i._i ≡ length c.args.frames.now = omega (arith, c.call_count-count.ensures) in
    let all = freed_all c.args.heap.now c.loop-i.heap c.args.frames.now c.loop-i.frames c.loop-i._i e c.loop-i.invariant in
    all.frames
