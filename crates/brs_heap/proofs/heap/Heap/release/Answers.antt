use Rattle.std.proofs.Common.{sym, ◌∙◌}
use Rattle.brs_heap.proofs.Slots.{lower_sound}
use Rattle.brs_heap.proofs.Making.{place_is, lower_moves}
use Rattle.brs_heap.proofs.heap.Heap.release.Goals as goal

pub invariant_of-self : goal.invariant_of-self
invariant_of-self c = lower_sound _ _ c.in-Some.place _ c.self.invariant c.lower.ensures

pub returns-clause-moves : goal.returns-clause-moves
returns-clause-moves c = lower_moves c.args.self.now c.self.inside.cells.slots c.lower.new.cells.slots c.self.inside.shares c.in-Some.place c.args.v c.self.view_is c.lower.ensures (place_is c.args.v c.in-Some.place (sym c.place.ensures ∙ c.in-Some.is))
