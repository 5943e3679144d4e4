use Rattle.std.proofs.Common.{sym, subst}
use Rattle.heap_meaning.specs.Heap.{Moves, no_references}
use Rattle.frame_stack.specs.Operand.{each_of}
use Rattle.call_release.specs.References.{operand_references}
use Rattle.call_release.proofs.operands.release_each.Goals as goal

pub returns-in-Items-clause-moves : goal.returns-in-Items-clause-moves
returns-in-Items-clause-moves c = subst (λ each. Moves c.args.heap.now c.release.new.self (λ k. operand_references k (each_of each)) no_references) (sym c.in-Items.is) c.release.ensures.moves
