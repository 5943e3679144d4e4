use Rattle.std.proofs.Common.{◌≡◌, ◌+◌, ◌<◌, ◌≤◌, ℕ, List, Some, None, map, length, sym, ap, subst, arith, ◌∙◌, get_or}
use Rattle.std.specs.Prelude.{slice_get, slice_index_or}
use Rattle.chan_values.specs.Folded.{folded}
use Rattle.chan_values.specs.Portable.{IsKeyList}
use Rattle.heap_meaning.specs.Values.{Value, Entry, filler}
use Rattle.heap_meaning.specs.Keys.{with_key, without_key, keys_of, values_of}
use Rattle.heap_meaning.specs.Cells.{Pairs, occurrence}
use Rattle.heap_meaning.specs.Reading.{children_in, keys_in, length_in, value_in}
use Rattle.heap_meaning.specs.Stands.{Outside}
use Rattle.heap_meaning.specs.Heap.{Heap, content_at}
use Rattle.heap_meaning.specs.Framing.{Rewritten, EntriesChange}
use Rattle.heap_meaning.proofs.KeyChanges.{key_replaced, key_taken}
use Rattle.brs_heap.specs.Content.{entry_of}
use Rattle.brs_heap.specs.Slots.{slot_at, slot_content}
use Rattle.brs_heap.proofs.Making.{place_is}
use Rattle.brs_heap.proofs.Writing.{content_slot, written_rewritten, written_sound, with_order, without_order, folded_twice}
use Rattle.brs_heap.proofs.MapCalls.{place_below, key_here, keys_here, entry_here, value_here, found_value}
use Rattle.brs_heap.proofs.MapCalls.{not_full}
use Rattle.brs_heap.proofs.heap.Heap.set_key.Goals as goal

pub put_value-old-requires-clause-at : goal.put_value-old-requires-clause-at
put_value-old-requires-clause-at c = place_below (content_at c.args.self.now c.args.v.now) (slot_content (slot_at c.self.inside.cells.slots c.in-Some.place)) c.in-Some-entries.entries.now (folded c.args.key.now) c.in-Ok.at (content_slot c.args.self.now c.self.inside.cells.slots c.self.inside.shares c.in-Some.place c.args.v.now c.self.view_is (place_is c.args.v.now c.in-Some.place (sym c.place.ensures ∙ c.in-Some.is))) c.in-Some-entries.ensures.entries c.in-Ok.ensures.found

pub invariant_of-self : goal.invariant_of-self
invariant_of-self c = written_sound c.self.inside.cells.slots _ c.in-Some.place _ _ (c.put_value-old.ensures.written (folded c.args.key.now) (key_here (content_at c.args.self.now c.args.v.now) (slot_content (slot_at c.self.inside.cells.slots c.in-Some.place)) c.in-Some-entries.entries.now (folded c.args.key.now) c.in-Ok.at (content_slot c.args.self.now c.self.inside.cells.slots c.self.inside.shares c.in-Some.place c.args.v.now c.self.view_is (place_is c.args.v.now c.in-Some.place (sym c.place.ensures ∙ c.in-Some.is))) c.in-Some-entries.ensures.entries c.in-Ok.ensures.found) (keys_here (content_at c.args.self.now c.args.v.now) (slot_content (slot_at c.self.inside.cells.slots c.in-Some.place)) c.in-Some-entries.entries.now (folded c.args.key.now) c.in-Ok.at (content_slot c.args.self.now c.self.inside.cells.slots c.self.inside.shares c.in-Some.place c.args.v.now c.self.view_is (place_is c.args.v.now c.in-Some.place (sym c.place.ensures ∙ c.in-Some.is))) c.in-Some-entries.ensures.entries c.in-Some-entries.ensures.ordered)) (λ x y. with_order (folded c.args.key.now) c.args.item (folded_twice c.args.key.now) x y) c.self.invariant

pub returns-in-Err-clause-memory : goal.returns-in-Err-clause-memory
returns-in-Err-clause-memory c = λ f. c.add_key.ensures.memory (not_full (content_at c.args.self.now c.args.v.now) c.in-Some-entries.entries.now (folded c.args.key.now) c.in-Err.at c.in-Some-entries.ensures.entries c.in-Err.ensures.gap f)

pub returns-in-Ok-clause-set : goal.returns-in-Ok-clause-set
returns-in-Ok-clause-set c = λ name store before after n es s b names row out.
    let mid : Outside = λ k. after k + occurrence k c.put_value-old.result in
    c.release.ensures.moves name _ mid after
    (key_replaced c.args.self.now _ c.args.v.now (folded c.args.key.now) c.in-Ok.at c.args.item c.put_value-old.result (written_rewritten c.args.self.now c.self.inside.cells.slots c.put_value-old.new.cells.slots c.self.inside.shares c.self.inside.shares c.in-Some.place c.args.v.now _ c.self.view_is (place_is c.args.v.now c.in-Some.place (sym c.place.ensures ∙ c.in-Some.is)) (c.put_value-old.ensures.written (folded c.args.key.now) (key_here (content_at c.args.self.now c.args.v.now) (slot_content (slot_at c.self.inside.cells.slots c.in-Some.place)) c.in-Some-entries.entries.now (folded c.args.key.now) c.in-Ok.at (content_slot c.args.self.now c.self.inside.cells.slots c.self.inside.shares c.in-Some.place c.args.v.now c.self.view_is (place_is c.args.v.now c.in-Some.place (sym c.place.ensures ∙ c.in-Some.is))) c.in-Some-entries.ensures.entries c.in-Ok.ensures.found) (keys_here (content_at c.args.self.now c.args.v.now) (slot_content (slot_at c.self.inside.cells.slots c.in-Some.place)) c.in-Some-entries.entries.now (folded c.args.key.now) c.in-Ok.at (content_slot c.args.self.now c.self.inside.cells.slots c.self.inside.shares c.in-Some.place c.args.v.now c.self.view_is (place_is c.args.v.now c.in-Some.place (sym c.place.ensures ∙ c.in-Some.is))) c.in-Some-entries.ensures.entries c.in-Some-entries.ensures.ordered)))
    (entry_here (content_at c.args.self.now c.args.v.now) (slot_content (slot_at c.self.inside.cells.slots c.in-Some.place)) c.in-Some-entries.entries.now (folded c.args.key.now) c.in-Ok.at (content_slot c.args.self.now c.self.inside.cells.slots c.self.inside.shares c.in-Some.place c.args.v.now c.self.view_is (place_is c.args.v.now c.in-Some.place (sym c.place.ensures ∙ c.in-Some.is))) c.in-Some-entries.ensures.entries c.in-Ok.ensures.found c.in-Some-entries.ensures.ordered c.put_value-old.result c.put_value-old.ensures.was)
    name store before mid n es s b names row (λ k. let x = out k in omega arith))
    (λ k. omega arith)

pub returns-in-Ok-clause-grows : goal.returns-in-Ok-clause-grows
returns-in-Ok-clause-grows c = λ e. absurd (found_value (content_at c.args.self.now c.args.v.now) (slot_content (slot_at c.self.inside.cells.slots c.in-Some.place)) c.in-Some-entries.entries.now (folded c.args.key.now) c.in-Ok.at (content_slot c.args.self.now c.self.inside.cells.slots c.self.inside.shares c.in-Some.place c.args.v.now c.self.view_is (place_is c.args.v.now c.in-Some.place (sym c.place.ensures ∙ c.in-Some.is))) c.in-Some-entries.ensures.entries c.in-Ok.ensures.found c.in-Some-entries.ensures.ordered e)

pub returns-in-Ok-clause-long : goal.returns-in-Ok-clause-long
returns-in-Ok-clause-long c = λ f. absurd (found_value (content_at c.args.self.now c.args.v.now) (slot_content (slot_at c.self.inside.cells.slots c.in-Some.place)) c.in-Some-entries.entries.now (folded c.args.key.now) c.in-Ok.at (content_slot c.args.self.now c.self.inside.cells.slots c.self.inside.shares c.in-Some.place c.args.v.now c.self.view_is (place_is c.args.v.now c.in-Some.place (sym c.place.ensures ∙ c.in-Some.is))) c.in-Some-entries.ensures.entries c.in-Ok.ensures.found c.in-Some-entries.ensures.ordered f.new)
