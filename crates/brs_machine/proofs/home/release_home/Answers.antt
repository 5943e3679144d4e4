use Rattle.std.proofs.Common.{subst}
use Rattle.heap_meaning.specs.Heap.{Moves, no_references, references_of}
use Rattle.actor_meaning.specs.View.{Home}
use Rattle.brs_machine.proofs.home.release_home.Goals as goal

pub returns-clause-moves : goal.returns-clause-moves
returns-clause-moves c = subst (λ (h : Home). Moves c.args.heap.now c.release.new.self (references_of h.m) no_references) c.home.view_is c.release.ensures.moves
