use Rattle.std.proofs.Common.{sym, ◌∙◌}
use Rattle.std.specs.List.{insert}
use Rattle.heap_meaning.proofs.Changes.{item_inserted}
use Rattle.brs_heap.proofs.Making.{place_is}
use Rattle.brs_heap.proofs.Writing.{written_rewritten, written_sound, items_order}
use Rattle.brs_heap.proofs.Calls.{on_ok_then, ok_or_same}
use Rattle.brs_heap.proofs.heap.Heap.insert.Goals as goal

pub invariant_of-self : goal.invariant_of-self
invariant_of-self c = ok_or_same c.insert_item.result _ _ c.self.inside.shares _ (λ w. written_sound c.self.inside.cells.slots c.insert_item.new.cells.slots c.in-Some.place _ _ w (λ x y. items_order (λ items. insert items c.args.at c.args.item) x y) c.self.invariant) c.self.invariant c.insert_item.ensures.written c.insert_item.ensures.unchanged

pub returns-clause-inserted : goal.returns-clause-inserted
returns-clause-inserted c = on_ok_then c.insert_item.result _ _ (λ w. item_inserted c.args.self.now _ c.args.v.now c.args.at c.args.item (written_rewritten c.args.self.now c.self.inside.cells.slots c.insert_item.new.cells.slots c.self.inside.shares c.self.inside.shares c.in-Some.place c.args.v.now _ c.self.view_is (place_is c.args.v.now c.in-Some.place (sym c.place.ensures ∙ c.in-Some.is)) w)) c.insert_item.ensures.written

pub returns-clause-rewritten : goal.returns-clause-rewritten
returns-clause-rewritten c = on_ok_then c.insert_item.result _ _ (λ w. written_rewritten c.args.self.now c.self.inside.cells.slots c.insert_item.new.cells.slots c.self.inside.shares c.self.inside.shares c.in-Some.place c.args.v.now _ c.self.view_is (place_is c.args.v.now c.in-Some.place (sym c.place.ensures ∙ c.in-Some.is)) w) c.insert_item.ensures.written
