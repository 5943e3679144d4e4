use Rattle.std.proofs.Common.{◌≡◌, ◌+◌, ◌<◌, ◌≤◌, ℕ, List, Some, None, map, length, sym, ap, subst, arith, ◌∙◌, get_or}
use Rattle.std.specs.Prelude.{slice_get, slice_index_or}
use Rattle.chan_values.specs.Folded.{folded}
use Rattle.chan_values.specs.Portable.{IsKeyList}
use Rattle.heap_meaning.specs.Values.{Value, Entry, filler}
use Rattle.heap_meaning.specs.Keys.{with_key, without_key, keys_of, values_of}
use Rattle.heap_meaning.specs.Cells.{Pairs, occurrence}
use Rattle.heap_meaning.specs.Reading.{children_in, keys_in, length_in, value_in}
use Rattle.heap_meaning.specs.Stands.{Outside}
use Rattle.heap_meaning.specs.Heap.{Heap, content_at}
use Rattle.heap_meaning.specs.Framing.{Rewritten, EntriesChange}
use Rattle.heap_meaning.proofs.KeyChanges.{key_replaced, key_taken}
use Rattle.brs_heap.specs.Content.{entry_of}
use Rattle.brs_heap.specs.Slots.{slot_at, slot_content}
use Rattle.brs_heap.proofs.Making.{place_is}
use Rattle.brs_heap.proofs.Writing.{content_slot, written_rewritten, written_sound, with_order, without_order, folded_twice}
use Rattle.brs_heap.proofs.MapCalls.{place_below, key_here, keys_here, entry_here, value_here, found_value}
use Rattle.brs_heap.proofs.Calls.{missed_key}
use Rattle.brs_heap.proofs.heap.Heap.take_key.Goals as goal

pub take_entry-requires-clause-at : goal.take_entry-requires-clause-at
take_entry-requires-clause-at c = place_below (content_at c.args.self.now c.args.v.now) (slot_content (slot_at c.self.inside.cells.slots c.in_ok-place.place)) c.in_ok-entries.entries.now (folded c.args.key.now) c.in-Ok.at (content_slot c.args.self.now c.self.inside.cells.slots c.self.inside.shares c.in_ok-place.place c.args.v.now c.self.view_is (place_is c.args.v.now c.in_ok-place.place (sym c.place.ensures ∙ c.in_ok-place.was))) c.in_ok-entries.ensures.entries c.in-Ok.ensures.found

pub invariant_of-self : goal.invariant_of-self
invariant_of-self c = written_sound c.self.inside.cells.slots _ c.in_ok-place.place _ _ (c.take_entry.ensures.written (folded c.args.key.now) (key_here (content_at c.args.self.now c.args.v.now) (slot_content (slot_at c.self.inside.cells.slots c.in_ok-place.place)) c.in_ok-entries.entries.now (folded c.args.key.now) c.in-Ok.at (content_slot c.args.self.now c.self.inside.cells.slots c.self.inside.shares c.in_ok-place.place c.args.v.now c.self.view_is (place_is c.args.v.now c.in_ok-place.place (sym c.place.ensures ∙ c.in_ok-place.was))) c.in_ok-entries.ensures.entries c.in-Ok.ensures.found) (keys_here (content_at c.args.self.now c.args.v.now) (slot_content (slot_at c.self.inside.cells.slots c.in_ok-place.place)) c.in_ok-entries.entries.now (folded c.args.key.now) c.in-Ok.at (content_slot c.args.self.now c.self.inside.cells.slots c.self.inside.shares c.in_ok-place.place c.args.v.now c.self.view_is (place_is c.args.v.now c.in_ok-place.place (sym c.place.ensures ∙ c.in_ok-place.was))) c.in_ok-entries.ensures.entries c.in_ok-entries.ensures.ordered)) (λ x y. without_order (folded c.args.key.now) x y) c.self.invariant

pub returns-in-Err-clause-value : goal.returns-in-Err-clause-value
returns-in-Err-clause-value c = missed_key (content_at c.args.self.now c.args.v.now) c.in_ok-entries.entries.now (folded c.args.key.now) c.in-Err.field-0 c.in_ok-entries.ensures.entries c.in-Err.ensures.gap

pub returns-in-Ok-clause-value : goal.returns-in-Ok-clause-value
returns-in-Ok-clause-value c = value_here (content_at c.args.self.now c.args.v.now) (slot_content (slot_at c.self.inside.cells.slots c.in_ok-place.place)) c.in_ok-entries.entries.now (folded c.args.key.now) c.in-Ok.at (content_slot c.args.self.now c.self.inside.cells.slots c.self.inside.shares c.in_ok-place.place c.args.v.now c.self.view_is (place_is c.args.v.now c.in_ok-place.place (sym c.place.ensures ∙ c.in_ok-place.was))) c.in_ok-entries.ensures.entries c.in-Ok.ensures.found c.in_ok-entries.ensures.ordered c.take_entry.result c.take_entry.ensures.was

pub returns-in-Ok-clause-taken : goal.returns-in-Ok-clause-taken
returns-in-Ok-clause-taken c = key_taken c.args.self.now _ c.args.v.now (folded c.args.key.now) c.in-Ok.at c.take_entry.result (written_rewritten c.args.self.now c.self.inside.cells.slots c.take_entry.new.cells.slots c.self.inside.shares c.self.inside.shares c.in_ok-place.place c.args.v.now _ c.self.view_is (place_is c.args.v.now c.in_ok-place.place (sym c.place.ensures ∙ c.in_ok-place.was)) (c.take_entry.ensures.written (folded c.args.key.now) (key_here (content_at c.args.self.now c.args.v.now) (slot_content (slot_at c.self.inside.cells.slots c.in_ok-place.place)) c.in_ok-entries.entries.now (folded c.args.key.now) c.in-Ok.at (content_slot c.args.self.now c.self.inside.cells.slots c.self.inside.shares c.in_ok-place.place c.args.v.now c.self.view_is (place_is c.args.v.now c.in_ok-place.place (sym c.place.ensures ∙ c.in_ok-place.was))) c.in_ok-entries.ensures.entries c.in-Ok.ensures.found) (keys_here (content_at c.args.self.now c.args.v.now) (slot_content (slot_at c.self.inside.cells.slots c.in_ok-place.place)) c.in_ok-entries.entries.now (folded c.args.key.now) c.in-Ok.at (content_slot c.args.self.now c.self.inside.cells.slots c.self.inside.shares c.in_ok-place.place c.args.v.now c.self.view_is (place_is c.args.v.now c.in_ok-place.place (sym c.place.ensures ∙ c.in_ok-place.was))) c.in_ok-entries.ensures.entries c.in_ok-entries.ensures.ordered)))
    (entry_here (content_at c.args.self.now c.args.v.now) (slot_content (slot_at c.self.inside.cells.slots c.in_ok-place.place)) c.in_ok-entries.entries.now (folded c.args.key.now) c.in-Ok.at (content_slot c.args.self.now c.self.inside.cells.slots c.self.inside.shares c.in_ok-place.place c.args.v.now c.self.view_is (place_is c.args.v.now c.in_ok-place.place (sym c.place.ensures ∙ c.in_ok-place.was))) c.in_ok-entries.ensures.entries c.in-Ok.ensures.found c.in_ok-entries.ensures.ordered c.take_entry.result c.take_entry.ensures.was)

pub returns-in-Ok-clause-rewritten : goal.returns-in-Ok-clause-rewritten
returns-in-Ok-clause-rewritten c = (written_rewritten c.args.self.now c.self.inside.cells.slots c.take_entry.new.cells.slots c.self.inside.shares c.self.inside.shares c.in_ok-place.place c.args.v.now _ c.self.view_is (place_is c.args.v.now c.in_ok-place.place (sym c.place.ensures ∙ c.in_ok-place.was)) (c.take_entry.ensures.written (folded c.args.key.now) (key_here (content_at c.args.self.now c.args.v.now) (slot_content (slot_at c.self.inside.cells.slots c.in_ok-place.place)) c.in_ok-entries.entries.now (folded c.args.key.now) c.in-Ok.at (content_slot c.args.self.now c.self.inside.cells.slots c.self.inside.shares c.in_ok-place.place c.args.v.now c.self.view_is (place_is c.args.v.now c.in_ok-place.place (sym c.place.ensures ∙ c.in_ok-place.was))) c.in_ok-entries.ensures.entries c.in-Ok.ensures.found) (keys_here (content_at c.args.self.now c.args.v.now) (slot_content (slot_at c.self.inside.cells.slots c.in_ok-place.place)) c.in_ok-entries.entries.now (folded c.args.key.now) c.in-Ok.at (content_slot c.args.self.now c.self.inside.cells.slots c.self.inside.shares c.in_ok-place.place c.args.v.now c.self.view_is (place_is c.args.v.now c.in_ok-place.place (sym c.place.ensures ∙ c.in_ok-place.was))) c.in_ok-entries.ensures.entries c.in_ok-entries.ensures.ordered)))
