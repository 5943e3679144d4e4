use Rattle.std.proofs.Common.{◌≡◌, take, subst, arith}
use Rattle.heap_meaning.specs.Heap.{Moves, no_references}
use Rattle.frame_stack.specs.Operand.{operand_of}
use Rattle.frame_stack.specs.Frame.{operands_of, changed, without_operands}
use Rattle.call_release.specs.References.{all_operand_references}
use Rattle.call_release.proofs.Dropping.{dropped_none, dropped_more, dropped_count}
use Rattle.call_release.proofs.operands.drop_operands.Goals as goal

pub loop-i-init : goal.loop-i-init
loop-i-init c = dropped_none c.args.heap.now c.args.frames.now

pub pop-operand-requires : goal.pop-operand-requires
pop-operand-requires c = dropped_count c.args.heap.now c.loop-i.heap c.args.frames.now c.loop-i.frames c.loop-i._i c.args.n c.loop-i.invariant (omega arith) c.requires

pub loop-i-preserved : goal.loop-i-preserved
loop-i-preserved c = dropped_more c.args.heap.now c.loop-i.heap c.release_operand.new.heap c.args.frames.now c.loop-i.frames c.pop-operand.new.self c.loop-i._i (operand_of c.pop-operand.result) c.loop-i.invariant c.pop-operand.ensures.taken c.pop-operand.ensures.rest c.release_operand.ensures.moves c.release_operand.ensures.shares

pub returns-clause-moves : goal.returns-clause-moves
returns-clause-moves c =
    let e : c.loop-i._i ≡ c.args.n = omega arith in
    subst (λ i. Moves c.args.heap.now c.loop-i.heap (λ k. all_operand_references k (take i (operands_of c.args.frames.now))) no_references) e c.loop-i.invariant.moves

pub returns-clause-frames : goal.returns-clause-frames
returns-clause-frames c =
    let e : c.loop-i._i ≡ c.args.n = omega arith in
    subst (λ i. c.loop-i.frames ≡ changed (without_operands i) c.args.frames.now) e c.loop-i.invariant.frames
