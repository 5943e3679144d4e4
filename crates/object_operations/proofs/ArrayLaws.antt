-- What calls on an array of the heap do to that of the store.
use Rattle.std.proofs.Common.{◌≡◌, ℕ, ◌+◌, ◌-◌, ◌^◌, ◌<◌, ◌≤◌, List, [], ◌∷◌, ◌++◌, length, Some, None, refl, sym, ap, ◌∙◌, subst, arith}
use Rattle.std.specs.Prelude.{slice_get, slice_set, option_map, pos, min}
use Rattle.std.specs.List.{insert}
use Rattle.std.proofs.lemmas.Grind.{common_steps}
use Rattle.std.proofs.lemmas.List.Edits.{insert_end}
use Rattle.chan_values.specs.declared.error_code.ErrorCode.TheVariants.{E12}
use Rattle.heap_meaning.specs.declared.plain.Plain.TheVariants.{Invalid, Small}
use Rattle.heap_meaning.specs.Values.{Value, Direct}
use Rattle.heap_meaning.specs.Store.{ArrayObject}
use Rattle.heap_meaning.specs.Cells.{occurrence}
use Rattle.heap_meaning.specs.Stands.{Outside, meaning, Stands}
use Rattle.heap_meaning.specs.Heap.{Heap, Belongs, Moves, InsertsItem, TakesItem, no_references, references_of, content_at}
use Rattle.heap_meaning.specs.Reading.{item_in, length_in}
use Rattle.object_operations.specs.Answer.{Answer, Gives, Raises, invalid, if_room, with_items, or_invalid, counted}
use Rattle.object_operations.specs.Arrays.{inserted, taken, took, method_of_array}
use Rattle.object_operations.specs.declared.array_method.ArrayMethod.TheVariants.{Push, Pop, Peek, Count}
use Rattle.object_operations.specs.Receivers.{ArrayRow}
use Rattle.object_operations.specs.Applies.{Answers, AppliesToArray}
use Rattle.object_operations.specs.declared.applied.Applied.{Applied}
use Rattle.object_operations.specs.declared.applied.Applied.TheVariants as a
use Rattle.object_operations.proofs.Seeing.{first_belongs, second_belongs, array_held, held_length, held_item}
use Rattle.object_operations.proofs.Answering.{gave_plain, gave_out, gave_shared, refusal}

pub room : (n : ℕ) (x : Answer) → n < 2 ^ 20 → if_room n x ≡ x
room n x l = grind (arith, common_steps)

pub no_room : (n : ℕ) (x : Answer) → 2 ^ 20 ≤ n → if_room n x ≡ Raises E12
no_room n x l = grind (arith, common_steps)

-- what is handed over is this, and the heap is this one
pub handed : {h h1 : Heap} {array : Value} {arguments : List Value} {row : ArrayRow} {v u : Value} → v ≡ u → AppliesToArray h h1 array arguments (a.Value u) row → AppliesToArray h h1 array arguments (a.Value v) row
handed {h = h} {h1 = h1} {array = array} {arguments = arguments} {row = row} e x = subst (λ y. AppliesToArray h h1 array arguments (a.Value y) row) (sym e) x

pub unmoved : {h h1 h2 : Heap} {array : Value} {arguments : List Value} {row : ArrayRow} {r : Applied} → h2 ≡ h1 → AppliesToArray h h1 array arguments r row → AppliesToArray h h2 array arguments r row
unmoved {h = h} {array = array} {arguments = arguments} {row = row} {r = r} e x = subst (λ (y : Heap). AppliesToArray h y array arguments r row) (sym e) x

-- a full array
pub refused_full : (h : Heap) (array item : Value) (i : ℕ) → 2 ^ 20 ≤ length_in (content_at h array) → AppliesToArray h h array (item ∷ []) (a.Raised E12) (inserted i)
refused_full h array item i l = record {
  answers = λ name store before n items s o names row.
      let e = held_length h name array items (array_held h name store before array n items s (first_belongs h name store before array (item ∷ []) s o) names row) in
      subst (Answers name h store before (a.Raised E12)) (sym (no_room (length items) _ (omega arith))) (refusal name h store before E12 s);
}

-- an item that was shared and put into an array
pub inserts : (h h1 h2 : Heap) (array item shared : Value) (i : ℕ) → length_in (content_at h array) < 2 ^ 20 → shared ≡ item
    → (Belongs h item → Moves h h1 no_references (references_of shared)) → InsertsItem h1 h2 array i shared → AppliesToArray h h2 array (item ∷ []) (a.Value (Direct Invalid)) (inserted i)
inserts h h1 h2 array item shared i l same moves puts = record {
  answers = λ name store before n items s o names row.
      let b = first_belongs h name store before array (item ∷ []) s o in
      let e = held_length h name array items (array_held h name store before array n items s b names row) in
      let mid : Outside = λ k. occurrence k shared + before k in
      let t = moves (second_belongs h name store before array item [] s o) name store before mid s (λ k. omega arith) in
      let b1 = first_belongs h1 name store mid array [] t (λ k. let x = o k in omega arith) in
      let u = puts name store mid before n items t b1 names row (λ k. omega arith) in
      let w = subst (λ v. Stands name h2.cells (slice_set store n (ArrayObject (insert items i (meaning name v)))) before) same u in
      subst (Answers name h2 store before (a.Value (Direct Invalid))) (sym (room (length items) _ (omega arith))) (gave_plain name h2 _ before Invalid w);
}

-- no item stands at the place
pub takes_none : (h : Heap) (array : Value) (i : ℕ) → item_in (content_at h array) i ≡ None → AppliesToArray h h array [] (a.Value (Direct Invalid)) (λ n items more store. taken n items i store)
takes_none h array i e = record {
  answers = λ name store before n items s o names row.
      let held = array_held h name store before array n items s (first_belongs h name store before array [] s o) names row in
      let f : slice_get items i ≡ None = held_item h name array items i held ∙ ap (option_map (meaning name)) e in
      subst (λ x. Answers name h store before (a.Value (Direct Invalid)) (took n items i x store)) (sym f) (gave_plain name h store before Invalid s);
}

-- the item at the place is taken out
pub takes_item : (h h1 : Heap) (array item : Value) (i : ℕ) → item_in (content_at h array) i ≡ Some item → TakesItem h h1 array i item → AppliesToArray h h1 array [] (a.Value item) (λ n items more store. taken n items i store)
takes_item h h1 array item i e takes = record {
  answers = λ name store before n items s o names row.
      let b = first_belongs h name store before array [] s o in
      let held = array_held h name store before array n items s b names row in
      let f : slice_get items i ≡ Some (meaning name item) = held_item h name array items i held ∙ ap (option_map (meaning name)) e in
      let u = takes name store before (λ k. occurrence k item + before k) n items s b names row (λ k. omega arith) in
      subst (λ x. Answers name h1 store before (a.Value item) (took n items i x store)) (sym f) (gave_out name h1 _ before item (meaning name item) refl u);
}

-- push is an item put before those from the length on
pub pushes : (h h1 : Heap) (array item : Value) (i : ℕ) (r : Applied) → i ≡ length_in (content_at h array) → AppliesToArray h h1 array (item ∷ []) r (inserted i) → AppliesToArray h h1 array (item ∷ []) r (method_of_array Push)
pushes h h1 array item i r e x = record {
  answers = λ name store before n items s o names row.
      let f = held_length h name array items (array_held h name store before array n items s (first_belongs h name store before array (item ∷ []) s o) names row) in
      let w = meaning name item in
      let same : insert items i w ≡ items ++ w ∷ [] = ap (λ j. insert items j w) (e ∙ f) ∙ insert_end items w in
      subst (λ l. Answers name h1 store before r (if_room (length items) (Gives invalid (with_items n l store)))) same (x.answers name store before n items s o names row);
}

-- pop is the last item taken out
pub pops : (h h1 : Heap) (array : Value) (i : ℕ) (r : Applied) → i ≡ length_in (content_at h array) - 1 → AppliesToArray h h1 array [] r (λ n items more store. taken n items i store) → AppliesToArray h h1 array [] r (method_of_array Pop)
pops h h1 array i r e x = record {
  answers = λ name store before n items s o names row.
      let f = held_length h name array items (array_held h name store before array n items s (first_belongs h name store before array [] s o) names row) in
      subst (λ j. Answers name h1 store before r (taken n items j store)) (e ∙ ap (λ j. j - 1) f) (x.answers name store before n items s o names row);
}

-- the last item is read
pub peeks_none : (h : Heap) (array : Value) (i : ℕ) → i ≡ length_in (content_at h array) - 1 → item_in (content_at h array) i ≡ None → AppliesToArray h h array [] (a.Value (Direct Invalid)) (method_of_array Peek)
peeks_none h array i e none = record {
  answers = λ name store before n items s o names row.
      let held = array_held h name store before array n items s (first_belongs h name store before array [] s o) names row in
      let at : length items - 1 ≡ i = sym (e ∙ ap (λ j. j - 1) (held_length h name array items held)) in
      let f : slice_get items (length items - 1) ≡ None = ap (slice_get items) at ∙ held_item h name array items i held ∙ ap (option_map (meaning name)) none in
      subst (λ x. Answers name h store before (a.Value (Direct Invalid)) (Gives (or_invalid x) store)) (sym f) (gave_plain name h store before Invalid s);
}

pub peeks_item : (h h1 : Heap) (array item : Value) (i : ℕ) → i ≡ length_in (content_at h array) - 1 → item_in (content_at h array) i ≡ Some item → Moves h h1 no_references (references_of item) → AppliesToArray h h1 array [] (a.Value item) (method_of_array Peek)
peeks_item h h1 array item i e some moves = record {
  answers = λ name store before n items s o names row.
      let held = array_held h name store before array n items s (first_belongs h name store before array [] s o) names row in
      let at : length items - 1 ≡ i = sym (e ∙ ap (λ j. j - 1) (held_length h name array items held)) in
      let f : slice_get items (length items - 1) ≡ Some (meaning name item) = ap (slice_get items) at ∙ held_item h name array items i held ∙ ap (option_map (meaning name)) some in
      subst (λ x. Answers name h1 store before (a.Value item) (Gives (or_invalid x) store)) (sym f) (gave_shared name h h1 store before item (meaning name item) s moves refl);
}

-- the number of items
pub counts : (h : Heap) (array v : Value) → v ≡ Direct (Small (pos (min (length_in (content_at h array)) (2 ^ 31 - 1)))) → AppliesToArray h h array [] (a.Value v) (method_of_array Count)
counts h array v e = record {
  answers = λ name store before n items s o names row.
      let f = held_length h name array items (array_held h name store before array n items s (first_belongs h name store before array [] s o) names row) in
      let g : v ≡ Direct (Small (pos (min (length items) (2 ^ 31 - 1)))) = e ∙ ap (λ l. Direct (Small (pos (min l (2 ^ 31 - 1))))) f in
      subst (λ x. Answers name h store before (a.Value x) (Gives (counted (length items)) store)) (sym g) (gave_plain name h store before _ s);
}
