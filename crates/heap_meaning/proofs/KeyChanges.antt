-- An associative array in which a key is written or taken out.
use Rattle.std.proofs.Common.{◌≡◌, ℕ, zero, suc, ◌+◌, List, [], ◌∷◌, map, length, Option, Some, None, refl, sym, ap, ◌∙◌, subst, arith}
use Rattle.std.specs.Prelude.{slice_get, slice_set, slice_index_or, option_map}
use Rattle.std.specs.List.{insert, remove}
use Rattle.std.proofs.lemmas.Option.{slice_get-map, slice_get_within, get_or_from_slice_get}
use Rattle.chan_values.specs.Portable.{IsKeyList}
use Rattle.heap_meaning.specs.Values.{Value, Entry, filler}
use Rattle.heap_meaning.specs.Keys.{keys_of, values_of, with_key, without_key, value_at_key, IsGap}
use Rattle.heap_meaning.specs.Cells.{Pairs, occurrence, occurrences}
use Rattle.heap_meaning.specs.Stands.{meaning}
use Rattle.heap_meaning.specs.Heap.{Heap, content_at, WritesMap, no_references, references_of}
use Rattle.heap_meaning.specs.Framing.{Rewritten, EntriesChange}
use Rattle.heap_meaning.proofs.Lists.{map_set, map_insert, map_remove, map_length, occurrences_set, occurrences_insert, occurrences_remove}
use Rattle.heap_meaning.proofs.Searching.{with_key_there, with_key_new, without_key_there, with_key_meaning, without_key_meaning, value_there}
use Rattle.heap_meaning.proofs.Changes.{entries_written}

-- the entry of this key stands at this place and has this value
pub record IsAt {A : Type 0} (es : List (Entry A)) (key : List ℕ) (i : ℕ) (was : A) : Type 0 where
  pub there : slice_get es i ≡ Some (record { key = key; value = was })

pub entry_at : {A : Type 0} (es : List (Entry A)) (key : List ℕ) (i : ℕ) (d : A) → slice_get (keys_of es) i ≡ Some key → IsAt es key i (slice_index_or (values_of es) i d)
entry_at [] key i d e = absurd cc
entry_at {A} (x ∷ es) key zero d e = let f : x.key ≡ key = cc in record { there = ap (λ k. Some (record { key = k; value = x.value })) f }
entry_at (x ∷ es) key (suc i) d e = record { there = (entry_at es key i d e).there }

-- the value at a key that stands at this place
pub value_is_at : {A : Type 0} (es : List (Entry A)) (key : List ℕ) (i : ℕ) (was : A) → IsKeyList (keys_of es) → IsAt es key i was → value_at_key es key ≡ Some was
value_is_at es key i was k a = value_there es k.ascending i (record { key = key; value = was }) a.there

values_there : (es : List (Entry Value)) (key : List ℕ) (i : ℕ) (was : Value) → IsAt es key i was → slice_get (values_of es) i ≡ Some was
values_there es key i was a = slice_get-map (λ (e : Entry Value). e.value) es i ∙ ap (option_map (λ (e : Entry Value). e.value)) a.there

key_set : (es : List (Entry Value)) (key : List ℕ) (i : ℕ) (item was : Value) → IsKeyList (keys_of es) → IsAt es key i was → (k : ℕ) → occurrences k (values_of es) + occurrence k item ≡ occurrences k (values_of (with_key es key item)) + occurrence k was
key_set es key i item was l a k =
    let e : with_key es key item ≡ slice_set es i (record { key = key; value = item }) = with_key_there es l.ascending i (record { key = key; value = was }) a.there item in
    let f : occurrences k (values_of (with_key es key item)) ≡ occurrences k (slice_set (values_of es) i item) = ap (λ r. occurrences k (values_of r)) e ∙ ap (occurrences k) (map_set (λ (e : Entry Value). e.value) es i (record { key = key; value = item })) in
    let v = values_there es key i was a in
    let w : slice_index_or (values_of es) i filler ≡ was = get_or_from_slice_get (values_of es) i was filler v in
    let g = occurrences_set k (values_of es) i item filler (slice_get_within (values_of es) i was v) in
    let h : occurrence k (slice_index_or (values_of es) i filler) ≡ occurrence k was = ap (occurrence k) w in omega arith

key_new : (es : List (Entry Value)) (key : List ℕ) (i : ℕ) (item : Value) → IsGap (keys_of es) key i → (k : ℕ) → occurrences k (values_of es) + occurrence k item ≡ occurrences k (values_of (with_key es key item)) + 0
key_new es key i item gap k =
    let f : occurrences k (values_of (with_key es key item)) ≡ occurrences k (insert (values_of es) i item) = ap (λ r. occurrences k (values_of r)) (with_key_new es key i item gap) ∙ ap (occurrences k) (map_insert (λ (e : Entry Value). e.value) es i (record { key = key; value = item })) in
    let g = occurrences_insert k (values_of es) i item in omega arith

key_out : (es : List (Entry Value)) (key : List ℕ) (i : ℕ) (was : Value) → IsKeyList (keys_of es) → IsAt es key i was → (k : ℕ) → occurrences k (values_of es) + 0 ≡ occurrences k (values_of (without_key es key)) + occurrence k was
key_out es key i was l a k =
    let e : without_key es key ≡ remove es i = without_key_there es l.ascending i (record { key = key; value = was }) a.there in
    let f : occurrences k (values_of (without_key es key)) ≡ occurrences k (remove (values_of es) i) = ap (λ r. occurrences k (values_of r)) e ∙ ap (occurrences k) (map_remove (λ (e : Entry Value). e.value) es i) in
    let g = occurrences_remove k (values_of es) i was (values_there es key i was a) in omega arith

-- the value at a key was replaced, and the old one is out
pub key_replaced : (old new : Heap) (v : Value) (key : List ℕ) (i : ℕ) (item was : Value) → Rewritten old new v (EntriesChange (λ es. with_key es key item)) → ((es : List (Entry Value)) → content_at old v ≡ Some (Pairs es) → IsKeyList (keys_of es) × IsAt es key i was)
    → WritesMap old new v (λ name es. with_key es key (meaning name item)) (references_of item) (references_of was)
key_replaced old new v key i item was r h =
    entries_written old new v (λ es. with_key es key item) (λ name es. with_key es key (meaning name item)) (references_of item) (references_of was) r (λ name es. with_key_meaning name es key item)
    (λ es e k. let a = h es e in key_set es key i item was a.0 a.1 k)

-- a new key
pub key_added : (old new : Heap) (v : Value) (key : List ℕ) (i : ℕ) (item : Value) → Rewritten old new v (EntriesChange (λ es. with_key es key item)) → ((es : List (Entry Value)) → content_at old v ≡ Some (Pairs es) → IsGap (keys_of es) key i)
    → WritesMap old new v (λ name es. with_key es key (meaning name item)) (references_of item) no_references
key_added old new v key i item r h =
    entries_written old new v (λ es. with_key es key item) (λ name es. with_key es key (meaning name item)) (references_of item) no_references r (λ name es. with_key_meaning name es key item)
    (λ es e k. key_new es key i item (h es e) k)

-- a key was taken out, and its value is out
pub key_taken : (old new : Heap) (v : Value) (key : List ℕ) (i : ℕ) (was : Value) → Rewritten old new v (EntriesChange (λ es. without_key es key)) → ((es : List (Entry Value)) → content_at old v ≡ Some (Pairs es) → IsKeyList (keys_of es) × IsAt es key i was)
    → WritesMap old new v (λ name es. without_key es key) no_references (references_of was)
key_taken old new v key i was r h =
    entries_written old new v (λ es. without_key es key) (λ name es. without_key es key) no_references (references_of was) r (λ name es. without_key_meaning name es key)
    (λ es e k. let a = h es e in key_out es key i was a.0 a.1 k)
