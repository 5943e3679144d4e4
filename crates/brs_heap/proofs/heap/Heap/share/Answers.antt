use Rattle.std.proofs.Common.{rules, ◌-◌, sym, ◌∙◌, subst}
use Rattle.heap_meaning.specs.Heap.{Heap, Moves, no_references, references_of}
use Rattle.brs_heap.specs.Slots.{seen}
use Rattle.brs_heap.proofs.Slots.{raise_room, raise_sound}
use Rattle.brs_heap.proofs.Making.{place_is, raise_moves, raise_contents}
use Rattle.brs_heap.proofs.heap.Heap.share.Goals as goal

pub raise-requires : goal.raise-requires
raise-requires c = raise_room c.self.inside.cells.slots c.in-Some.place c.self.inside.shares c.self.invariant (search rules)

pub invariant_of-self : goal.invariant_of-self
invariant_of-self c = raise_sound _ _ c.in-Some.place c.self.inside.shares c.self.invariant (search rules) c.raise.ensures

pub returns-clause-contents : goal.returns-clause-contents
returns-clause-contents c = raise_contents c.args.self.now c.self.inside.cells.slots c.raise.new.cells.slots c.self.inside.shares (c.self.inside.shares - 1) c.in-Some.place c.self.view_is c.raise.ensures

pub returns-clause-moves : goal.returns-clause-moves
returns-clause-moves c = λ b.
    let is = place_is c.args.v.now c.in-Some.place (sym c.place.ensures ∙ c.in-Some.is) in
    let new : Heap = record { cells = seen c.raise.new.cells.slots; shares = c.self.inside.shares - 1 } in
    subst (λ w. Moves c.args.self.now new no_references (references_of w)) (is ∙ sym c.cell.ensures)
    (raise_moves c.args.self.now c.self.inside.cells.slots c.raise.new.cells.slots c.self.inside.shares (c.self.inside.shares - 1) c.in-Some.place c.args.v.now c.self.view_is c.raise.ensures is b)
