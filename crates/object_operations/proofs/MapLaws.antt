-- What calls on an associative array of the heap do to that of the store.
use Rattle.std.proofs.Common.{◌≡◌, ℕ, ◌+◌, ◌-◌, ◌^◌, ◌≤◌, List, [], ◌∷◌, length, Option, Some, None, refl, sym, ap, ◌∙◌, subst, arith, Bool, true, false, ◌⊎◌, inl, inr}
use Rattle.std.specs.Prelude.{slice_set, option_map, pos, min}
use Rattle.std.specs.Option.{is_some, option_copied}
use denote.Bor.{Bor}
use Rattle.chan_values.specs.Folded.{folded}
use Rattle.chan_values.specs.declared.error_code.ErrorCode.TheVariants.{E2, E12}
use Rattle.heap_meaning.specs.declared.plain.Plain.TheVariants.{Invalid, Small, Truth}
use Rattle.heap_meaning.specs.Values.{Value, Direct, StoreValue, Entry}
use Rattle.heap_meaning.specs.Keys.{value_at_key, with_key}
use Rattle.heap_meaning.specs.Store.{MapObject, Store}
use Rattle.heap_meaning.specs.Cells.{Content, occurrence}
use Rattle.heap_meaning.specs.Stands.{Naming, Outside, meaning, Stands}
use Rattle.heap_meaning.specs.Heap.{Heap, Belongs, Moves, SetsKey, TakesKey, no_references, references_of, content_at}
use Rattle.heap_meaning.specs.Reading.{length_in, value_in, text_in, IsFull}
use Rattle.heap_meaning.proofs.Lists.{lt_or}
use Rattle.object_operations.specs.Answer.{Gives, invalid, truth, with_entries, or_invalid, counted}
use Rattle.object_operations.specs.Maps.{put_at, put_row, looked_up, existing, removed_key, deleted_row, method_of_map}
use Rattle.object_operations.specs.declared.map_method.MapMethod.TheVariants.{AddReplace, Lookup, DoesExist, Delete, Count}
use Rattle.object_operations.specs.Receivers.{MapRow}
use Rattle.object_operations.specs.Applies.{Gave, Answers, AppliesToMap}
use Rattle.object_operations.specs.declared.applied.Applied.{Applied}
use Rattle.object_operations.specs.declared.applied.Applied.TheVariants as a
use Rattle.object_operations.proofs.Seeing.{first_belongs, second_belongs, map_held}
use Rattle.object_operations.proofs.Entries.{held_value, held_entries, text_seen}
use Rattle.object_operations.proofs.Answering.{gave_plain, gave_shared, refusal}
use Rattle.object_operations.proofs.ArrayLaws.{room, no_room}

pub map_handed : {h h1 : Heap} {pairs : Value} {arguments : List Value} {row : MapRow} {v u : Value} → v ≡ u → AppliesToMap h h1 pairs arguments (a.Value u) row → AppliesToMap h h1 pairs arguments (a.Value v) row
map_handed {h = h} {h1 = h1} {pairs = pairs} {arguments = arguments} {row = row} e x = subst (λ y. AppliesToMap h h1 pairs arguments (a.Value y) row) (sym e) x

pub map_unmoved : {h h1 h2 : Heap} {pairs : Value} {arguments : List Value} {row : MapRow} {r : Applied} → h2 ≡ h1 → AppliesToMap h h1 pairs arguments r row → AppliesToMap h h2 pairs arguments r row
map_unmoved {h = h} {pairs = pairs} {arguments = arguments} {row = row} {r = r} e x = subst (λ (y : Heap). AppliesToMap h y pairs arguments r row) (sym e) x

-- the key of a call is no text
pub put_no_text : (h : Heap) (pairs key item : Value) → text_in (content_at h key) ≡ None → AppliesToMap h h pairs (key ∷ item ∷ []) (a.Raised E2) (method_of_map AddReplace)
put_no_text h pairs key item e = record {
  answers = λ name store before n entries s o names r.
      let f = text_seen h name store before key s (second_belongs h name store before pairs key (item ∷ []) s o) ∙ e in
      subst (λ t. Answers name h store before (a.Raised E2) (put_row n entries t (meaning name item) store)) (sym f) (refusal name h store before E2 s);
}

pub lookup_no_text : (h : Heap) (pairs key : Value) → text_in (content_at h key) ≡ None → AppliesToMap h h pairs (key ∷ []) (a.Raised E2) (method_of_map Lookup)
lookup_no_text h pairs key e = record {
  answers = λ name store before n entries s o names r.
      let f = text_seen h name store before key s (second_belongs h name store before pairs key [] s o) ∙ e in
      subst (λ t. Answers name h store before (a.Raised E2) (looked_up entries t store)) (sym f) (refusal name h store before E2 s);
}

pub exists_no_text : (h : Heap) (pairs key : Value) → text_in (content_at h key) ≡ None → AppliesToMap h h pairs (key ∷ []) (a.Raised E2) (method_of_map DoesExist)
exists_no_text h pairs key e = record {
  answers = λ name store before n entries s o names r.
      let f = text_seen h name store before key s (second_belongs h name store before pairs key [] s o) ∙ e in
      subst (λ t. Answers name h store before (a.Raised E2) (existing entries t store)) (sym f) (refusal name h store before E2 s);
}

pub delete_no_text : (h : Heap) (pairs key : Value) → text_in (content_at h key) ≡ None → AppliesToMap h h pairs (key ∷ []) (a.Raised E2) (method_of_map Delete)
delete_no_text h pairs key e = record {
  answers = λ name store before n entries s o names r.
      let f = text_seen h name store before key s (second_belongs h name store before pairs key [] s o) ∙ e in
      subst (λ t. Answers name h store before (a.Raised E2) (deleted_row n entries t store)) (sym f) (refusal name h store before E2 s);
}

-- a value was put at a key for which there was room
pub puts : (h h1 h2 : Heap) (pairs key item shared : Value) (bytes : List ℕ) → text_in (content_at h key) ≡ Some bytes → shared ≡ item → (Belongs h item → Moves h h1 no_references (references_of shared))
    → ((w : Value) → content_at h1 w ≡ content_at h w) → (IsFull (content_at h1 pairs) (folded bytes) → ⊥) → SetsKey h1 h2 pairs bytes shared → AppliesToMap h h2 pairs (key ∷ item ∷ []) (a.Value (Direct Invalid)) (method_of_map AddReplace)
puts h h1 h2 pairs key item shared bytes text same moves contents free sets = record {
  answers = λ name store before n entries s o names row.
      let b = first_belongs h name store before pairs (key ∷ item ∷ []) s o in
      let f = text_seen h name store before key s (second_belongs h name store before pairs key (item ∷ []) s o) ∙ text in
      let held = map_held h name store before pairs n entries s b names row in
      let mid : Outside = λ k. occurrence k shared + before k in
      let bi = second_belongs h name store before key item [] s (λ k. let x = o k in omega arith) in
      let t = moves bi name store before mid s (λ k. omega arith) in
      let b1 = first_belongs h1 name store mid pairs [] t (λ k. let x = o k in omega arith) in
      let u = sets name store mid before n entries t b1 names row (λ k. omega arith) in
      let w = subst (λ v. Stands name h2.cells (slice_set store n (MapObject (with_key entries (folded bytes) (meaning name v)))) before) same u in
      let gave = gave_plain name h2 _ before Invalid w in
      subst (λ t. Answers name h2 store before (a.Value (Direct Invalid)) (put_row n entries t (meaning name item) store)) (sym f)
      (go name store before n entries (meaning name item) gave (held_value h name pairs entries (folded bytes) held) (held_entries h name pairs entries held) (value_at_key entries (folded bytes)) (value_in (content_at h pairs) (folded bytes)) refl refl);
}
  where
    go : (name : Naming) (store : Store) (before : Outside) (n : ℕ) (entries : List (Entry StoreValue)) (w : StoreValue) → Gave name h2 (with_entries n (with_key entries (folded bytes) w) store) before (Direct Invalid) invalid
        → value_at_key entries (folded bytes) ≡ option_map (meaning name) (value_in (content_at h pairs) (folded bytes)) → length_in (content_at h pairs) ≡ length entries
        → (x : Option StoreValue) (y : Option Value) → value_at_key entries (folded bytes) ≡ x → value_in (content_at h pairs) (folded bytes) ≡ y
        → Answers name h2 store before (a.Value (Direct Invalid)) (put_at n entries (folded bytes) x w store)
    go name store before n entries w gave p q (Some v) y e f = gave
    go name store before n entries w gave p q None (Some v) e f = absurd (let g : None ≡ Some (meaning name v) = sym e ∙ p ∙ ap (option_map (meaning name)) f in cc)
    go name store before n entries w gave p q None None e f = elim (lt_or (length entries) (2 ^ 20)) [
      | inl l ↦ subst (Answers name h2 store before (a.Value (Direct Invalid))) (sym (room (length entries) _ l)) gave
      | inr l ↦ absurd (free (record { new = ap (λ o. value_in o (folded bytes)) (contents pairs) ∙ f; long = let g = ap length_in (contents pairs) in omega arith }))
    ]

-- a new key for which there is no room
pub put_full : (h h1 h2 : Heap) (pairs key item shared : Value) (bytes : List ℕ) → text_in (content_at h key) ≡ Some bytes → (Belongs h item → Moves h h1 no_references (references_of shared))
    → ((w : Value) → content_at h1 w ≡ content_at h w) → IsFull (content_at h1 pairs) (folded bytes) → Moves h1 h2 (references_of shared) no_references → AppliesToMap h h2 pairs (key ∷ item ∷ []) (a.Raised E12) (method_of_map AddReplace)
put_full h h1 h2 pairs key item shared bytes text moves contents full back = record {
  answers = λ name store before n entries s o names row.
      let b = first_belongs h name store before pairs (key ∷ item ∷ []) s o in
      let f = text_seen h name store before key s (second_belongs h name store before pairs key (item ∷ []) s o) ∙ text in
      let held = map_held h name store before pairs n entries s b names row in
      let e : value_at_key entries (folded bytes) ≡ None = held_value h name pairs entries (folded bytes) held ∙ ap (option_map (meaning name)) (sym (ap (λ o. value_in o (folded bytes)) (contents pairs)) ∙ full.new) in
      let l : 2 ^ 20 ≤ length entries = let x = held_entries h name pairs entries held in let y = ap length_in (contents pairs) in let z = full.long in omega arith in
      let mid : Outside = λ k. occurrence k shared + before k in
      let bi = second_belongs h name store before key item [] s (λ k. let x = o k in omega arith) in
      let t = moves bi name store before mid s (λ k. omega arith) in
      let u = back name store mid before t (λ k. omega arith) in
      subst (λ t. Answers name h2 store before (a.Raised E12) (put_row n entries t (meaning name item) store)) (sym f)
      (subst (λ x. Answers name h2 store before (a.Raised E12) (put_at n entries (folded bytes) x (meaning name item) store)) (sym e) (subst (Answers name h2 store before (a.Raised E12)) (sym (no_room (length entries) _ l)) (refusal name h2 store before E12 u)));
}

-- an associative array either has no room for a key, or it can be put there
pub full_or : (o : Option Content) (key : List ℕ) → IsFull o key ⊎ (IsFull o key → ⊥)
full_or o key = go (value_in o key) refl
  where
    go : (x : Option Value) → value_in o key ≡ x → IsFull o key ⊎ (IsFull o key → ⊥)
    go (Some v) e = inr (λ f. let g = f.new in absurd cc)
    go None e = elim (lt_or (length_in o) (2 ^ 20)) [ inl l ↦ inr (λ f. let g = f.long in omega arith) | inr l ↦ inl (record { new = e; long = l }) ]

-- the value at a key is shared
pub looks_up_none : (h : Heap) (pairs key : Value) (bytes : List ℕ) → text_in (content_at h key) ≡ Some bytes → value_in (content_at h pairs) (folded bytes) ≡ None → AppliesToMap h h pairs (key ∷ []) (a.Value (Direct Invalid)) (method_of_map Lookup)
looks_up_none h pairs key bytes text none = record {
  answers = λ name store before n entries s o names row.
      let f = text_seen h name store before key s (second_belongs h name store before pairs key [] s o) ∙ text in
      let held = map_held h name store before pairs n entries s (first_belongs h name store before pairs (key ∷ []) s o) names row in
      let e = held_value h name pairs entries (folded bytes) held ∙ ap (option_map (meaning name)) none in
      subst (λ t. Answers name h store before (a.Value (Direct Invalid)) (looked_up entries t store)) (sym f) (subst (λ x. Answers name h store before (a.Value (Direct Invalid)) (Gives (or_invalid x) store)) (sym e) (gave_plain name h store before Invalid s));
}

pub looks_up : (h h1 : Heap) (pairs key item : Value) (bytes : List ℕ) → text_in (content_at h key) ≡ Some bytes → value_in (content_at h pairs) (folded bytes) ≡ Some item → Moves h h1 no_references (references_of item) → AppliesToMap h h1 pairs (key ∷ []) (a.Value item) (method_of_map Lookup)
looks_up h h1 pairs key item bytes text some moves = record {
  answers = λ name store before n entries s o names row.
      let f = text_seen h name store before key s (second_belongs h name store before pairs key [] s o) ∙ text in
      let held = map_held h name store before pairs n entries s (first_belongs h name store before pairs (key ∷ []) s o) names row in
      let e = held_value h name pairs entries (folded bytes) held ∙ ap (option_map (meaning name)) some in
      subst (λ t. Answers name h1 store before (a.Value item) (looked_up entries t store)) (sym f) (subst (λ x. Answers name h1 store before (a.Value item) (Gives (or_invalid x) store)) (sym e) (gave_shared name h h1 store before item (meaning name item) s moves refl));
}

some_map : {A B : Type 0} (f : A → B) (x : Option A) → is_some (option_map f x) ≡ is_some x
some_map f None = refl
some_map f (Some v) = refl

-- whether a key is there
pub exists_is : (h : Heap) (pairs key v : Value) (bytes : List ℕ) (there : Bool) → v ≡ Direct (Truth there) → text_in (content_at h key) ≡ Some bytes → there ≡ is_some (value_in (content_at h pairs) (folded bytes)) → AppliesToMap h h pairs (key ∷ []) (a.Value v) (method_of_map DoesExist)
exists_is h pairs key v bytes there is text e = record {
  answers = λ name store before n entries s o names row.
      let f = text_seen h name store before key s (second_belongs h name store before pairs key [] s o) ∙ text in
      let held = map_held h name store before pairs n entries s (first_belongs h name store before pairs (key ∷ []) s o) names row in
      let g : is_some (value_at_key entries (folded bytes)) ≡ there = ap is_some (held_value h name pairs entries (folded bytes) held) ∙ some_map (meaning name) (value_in (content_at h pairs) (folded bytes)) ∙ sym e in
      subst (λ t. Answers name h store before (a.Value v) (existing entries t store)) (sym f) (subst (λ x. Answers name h store before (a.Value v) (Gives (truth x) store)) (sym g) (subst (λ u. Answers name h store before (a.Value u) (Gives (truth there) store)) (sym is) (gave_plain name h store before (Truth there) s)));
}

-- a key is taken out and its value released
pub deletes_none : (h : Heap) (pairs key : Value) (bytes : List ℕ) → text_in (content_at h key) ≡ Some bytes → value_in (content_at h pairs) (folded bytes) ≡ None → AppliesToMap h h pairs (key ∷ []) (a.Value (Direct (Truth false))) (method_of_map Delete)
deletes_none h pairs key bytes text none = record {
  answers = λ name store before n entries s o names row.
      let f = text_seen h name store before key s (second_belongs h name store before pairs key [] s o) ∙ text in
      let held = map_held h name store before pairs n entries s (first_belongs h name store before pairs (key ∷ []) s o) names row in
      let e = held_value h name pairs entries (folded bytes) held ∙ ap (option_map (meaning name)) none in
      subst (λ t. Answers name h store before (a.Value (Direct (Truth false))) (deleted_row n entries t store)) (sym f) (subst (λ x. Answers name h store before (a.Value (Direct (Truth false))) (removed_key n entries (folded bytes) x store)) (sym e) (gave_plain name h store before (Truth false) s));
}

pub deletes_key : (h h1 h2 : Heap) (pairs key item : Value) (bytes : List ℕ) → text_in (content_at h key) ≡ Some bytes → value_in (content_at h pairs) (folded bytes) ≡ Some item → TakesKey h h1 pairs bytes item → Moves h1 h2 (references_of item) no_references
    → AppliesToMap h h2 pairs (key ∷ []) (a.Value (Direct (Truth true))) (method_of_map Delete)
deletes_key h h1 h2 pairs key item bytes text some takes back = record {
  answers = λ name store before n entries s o names row.
      let f = text_seen h name store before key s (second_belongs h name store before pairs key [] s o) ∙ text in
      let b = first_belongs h name store before pairs (key ∷ []) s o in
      let held = map_held h name store before pairs n entries s b names row in
      let e = held_value h name pairs entries (folded bytes) held ∙ ap (option_map (meaning name)) some in
      let mid : Outside = λ k. before k + occurrence k item in
      let t = takes name store before mid n entries s b names row (λ k. omega arith) in
      let u = back name _ mid before t (λ k. omega arith) in
      subst (λ t. Answers name h2 store before (a.Value (Direct (Truth true))) (deleted_row n entries t store)) (sym f) (subst (λ x. Answers name h2 store before (a.Value (Direct (Truth true))) (removed_key n entries (folded bytes) x store)) (sym e) (gave_plain name h2 _ before (Truth true) u));
}

-- the number of keys
pub counts_keys : (h : Heap) (pairs v : Value) → v ≡ Direct (Small (pos (min (length_in (content_at h pairs)) (2 ^ 31 - 1)))) → AppliesToMap h h pairs [] (a.Value v) (method_of_map Count)
counts_keys h pairs v e = record {
  answers = λ name store before n entries s o names row.
      let f = held_entries h name pairs entries (map_held h name store before pairs n entries s (first_belongs h name store before pairs [] s o) names row) in
      let g : v ≡ Direct (Small (pos (min (length entries) (2 ^ 31 - 1)))) = e ∙ ap (λ l. Direct (Small (pos (min l (2 ^ 31 - 1))))) f in
      subst (λ x. Answers name h store before (a.Value x) (Gives (counted (length entries)) store)) (sym g) (gave_plain name h store before _ s);
}

pub some_copied : {A : Type 0} (x : Option (Bor A)) → is_some x ≡ is_some (option_copied x)
some_copied None = refl
some_copied (Some v) = refl

-- a reference that was handed back and then taken back
pub moves_back : (h1 h1' h2 : Heap) (v shared : Value) → h1' ≡ h1 → v ≡ shared → Moves h1' h2 (references_of v) no_references → Moves h1 h2 (references_of shared) no_references
moves_back h1 h1' h2 v shared e f m = subst (λ (h : Heap). Moves h h2 (references_of shared) no_references) e (subst (λ u. Moves h1' h2 (references_of u) no_references) f m)
