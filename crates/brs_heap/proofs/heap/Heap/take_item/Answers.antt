use Rattle.std.proofs.Common.{sym, ◌∙◌, ap, Some, None, ◌≡◌}
use Rattle.std.specs.List.{remove}
use Rattle.heap_meaning.specs.Reading.{item_in}
use Rattle.heap_meaning.specs.Heap.{content_at}
use Rattle.heap_meaning.proofs.Changes.{item_taken}
use Rattle.brs_heap.proofs.Making.{place_is}
use Rattle.brs_heap.proofs.Writing.{content_slot, written_rewritten, written_sound, items_order}
use Rattle.brs_heap.proofs.Calls.{on_some_then, taken_some, some_or_same}
use Rattle.brs_heap.proofs.heap.Heap.take_item.Goals as goal

pub invariant_of-self : goal.invariant_of-self
invariant_of-self c = some_or_same c.take_item_at.result _ _ c.self.inside.shares _ (λ w. written_sound c.self.inside.cells.slots c.take_item_at.new.cells.slots c.in-Some.place _ _ w (λ x y. items_order (λ items. remove items c.args.at) x y) c.self.invariant) c.self.invariant c.take_item_at.ensures.written c.take_item_at.ensures.unchanged

pub returns-in-Some-clause-taken : goal.returns-in-Some-clause-taken
returns-in-Some-clause-taken c =
    let is = place_is c.args.v.now c.in-Some.place (sym c.place.ensures ∙ c.in-Some.is) in
    let there = content_slot c.args.self.now c.self.inside.cells.slots c.self.inside.shares c.in-Some.place c.args.v.now c.self.view_is is in
    taken_some c.take_item_at.result _ _ _ c.take_item_at.ensures.value
    (λ item q w. item_taken c.args.self.now _ c.args.v.now c.args.at item (written_rewritten c.args.self.now c.self.inside.cells.slots c.take_item_at.new.cells.slots c.self.inside.shares c.self.inside.shares c.in-Some.place c.args.v.now _ c.self.view_is is w) (q ∙ ap (λ o. item_in o c.args.at) there))
    c.take_item_at.ensures.written

pub returns-in-Some-clause-rewritten : goal.returns-in-Some-clause-rewritten
returns-in-Some-clause-rewritten c = on_some_then c.take_item_at.result _ _ (λ w. written_rewritten c.args.self.now c.self.inside.cells.slots c.take_item_at.new.cells.slots c.self.inside.shares c.self.inside.shares c.in-Some.place c.args.v.now _ c.self.view_is (place_is c.args.v.now c.in-Some.place (sym c.place.ensures ∙ c.in-Some.is)) w) c.take_item_at.ensures.written
