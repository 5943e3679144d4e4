use Rattle.std.proofs.Common.{sym, subst}
use Rattle.heap_meaning.specs.Heap.{Moves, no_references}
use Rattle.frame_stack.specs.Operand.{operand_of}
use Rattle.call_release.specs.References.{operand_references}
use Rattle.call_release.proofs.operands.release_operand.Goals as goal

pub returns-in-Value-clause-moves : goal.returns-in-Value-clause-moves
returns-in-Value-clause-moves c = subst (λ operand. Moves c.args.heap.now c.release.new.self (λ k. operand_references k (operand_of operand)) no_references) (sym c.in-Value.is) c.release.ensures.moves

pub returns-in-Each-clause-moves : goal.returns-in-Each-clause-moves
returns-in-Each-clause-moves c = subst (λ operand. Moves c.args.heap.now c.release_each.new.heap (λ k. operand_references k (operand_of operand)) no_references) (sym c.in-Each.is) c.release_each.ensures.moves
