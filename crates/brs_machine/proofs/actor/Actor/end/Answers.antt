use Rattle.std.proofs.Common.{subst}
use Rattle.heap_meaning.specs.Heap.{Moves, no_references}
use Rattle.call_release.specs.References.{call_references}
use Rattle.actor_meaning.specs.View.{Actor, home_references}
use Rattle.actor_meaning.proofs.Calls.{ended_by_release}
use Rattle.brs_machine.proofs.Homes.{both_released}
use Rattle.brs_machine.proofs.actor.Actor.end.Goals as goal

pub returns-clause-ends : goal.returns-clause-ends
returns-clause-ends c = λ image. ended_by_release image c.args.heap.now c.args.self.now c.release_homes.new.heap
    (both_released c.args.heap.now c.release_calls.new.heap c.release_homes.new.heap c.args.self.now
    (subst (λ (a : Actor). Moves c.args.heap.now c.release_calls.new.heap (λ k. call_references k a.frames) no_references) c.self.view_is c.release_calls.ensures.moves)
    (subst (λ (a : Actor). Moves c.release_calls.new.heap c.release_homes.new.heap (λ k. home_references k a.homes) no_references) c.self.view_is c.release_homes.ensures.moves))
