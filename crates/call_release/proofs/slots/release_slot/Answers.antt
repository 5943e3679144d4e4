use Rattle.std.proofs.Common.{sym, subst}
use Rattle.heap_meaning.specs.Heap.{Moves, no_references}
use Rattle.call_release.specs.Taken.{slot_reference}
use Rattle.call_release.proofs.slots.release_slot.Goals as goal

pub returns-in-Some-clause-moves : goal.returns-in-Some-clause-moves
returns-in-Some-clause-moves c = subst (λ slot. Moves c.args.heap.now c.release.new.self (λ k. slot_reference k slot) no_references) (sym c.in-Some.is) c.release.ensures.moves
