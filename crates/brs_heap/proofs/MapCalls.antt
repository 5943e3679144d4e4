-- A key that was found in an associative array of the heap.
use Rattle.std.proofs.Common.{◌≡◌, ℕ, ◌+◌, ◌<◌, ◌≤◌, ◌^◌, List, map, length, get_or, Option, Some, None, Result, Ok, Err, refl, sym, ap, ◌∙◌, subst, arith, ◌⊎◌, inl, inr}
use Rattle.std.specs.Prelude.{slice_get, slice_index_or}
use Rattle.std.specs.Ordering.{nat_cmp}
use Rattle.std.specs.declared.cmp.Ordering.TheVariants.{Equal}
use Rattle.std.specs.Cmp.Lexicographic.{slice_cmp}
use Rattle.std.proofs.lemmas.Map.Lookups.{exact_bytes}
use Rattle.chan_values.specs.Portable.{IsKeyList}
use Rattle.heap_meaning.specs.Values.{Value, Entry, filler}
use Rattle.heap_meaning.specs.Keys.{keys_of, values_of, value_at_key, IsGap}
use Rattle.heap_meaning.specs.Cells.{Content, Text, Array, Pairs, Message}
use Rattle.heap_meaning.specs.Reading.{children_in, entries_in, keys_in, length_in, value_in, IsFull}
use Rattle.heap_meaning.proofs.Lists.{map_length, lt_or}
use Rattle.heap_meaning.proofs.KeyChanges.{IsAt, entry_at, value_is_at}
use Rattle.brs_heap.specs.declared.cell.Entry as e
use Rattle.brs_heap.specs.Content.{entry_of}
use Rattle.brs_heap.proofs.Calls.{key_shown, key_within, value_of_entries, keys_of_entries, entries_are, entries_length, missed_key}

children_of_entries : (o : Option Content) (es : List (Entry Value)) → Some es ≡ entries_in o → children_in o ≡ values_of es
children_of_entries None es q = absurd cc
children_of_entries (Some (Text t)) es q = absurd cc
children_of_entries (Some (Array t)) es q = absurd cc
children_of_entries (Some (Message t)) es q = absurd cc
children_of_entries (Some (Pairs fs)) es q = let f : es ≡ fs = cc in ap values_of (sym f)

module _ (o p : Option Content) (items : List e.Entry) (key : List ℕ) (at : ℕ) (same : p ≡ o) (are : Some (map entry_of items) ≡ entries_in o) where
  are' : Some (map entry_of items) ≡ entries_in p
  are' = are ∙ ap entries_in (sym same)

  module _ (found : slice_get (keys_of (map entry_of items)) at ≡ Some key) where
    pub place_below : at < length_in p
    place_below = let a = key_within items at key found in let b = entries_length p (map entry_of items) are' in let c = map_length entry_of items in omega arith

    pub key_here : slice_get (keys_in p) at ≡ Some key
    key_here = ap (λ ks. slice_get ks at) (keys_of_entries p (map entry_of items) are') ∙ found

    module _ (ordered : IsKeyList (keys_of (map entry_of items))) where
      pub found_value : value_in o key ≡ None → ⊥
      found_value e =
          let v = value_is_at (map entry_of items) key at _ ordered (entry_at (map entry_of items) key at filler found) in
          let w = value_of_entries o (map entry_of items) key are in cc

      module _ (was : Value) (was_is : was ≡ slice_index_or (children_in p) at filler) where
        was_there : was ≡ slice_index_or (values_of (map entry_of items)) at filler
        was_there = was_is ∙ ap (λ l. slice_index_or l at filler) (children_of_entries p (map entry_of items) are')

        pub value_here : Some was ≡ value_in o key
        value_here = ap (λ w. Some w) was_there ∙ sym (value_is_at (map entry_of items) key at _ ordered (entry_at (map entry_of items) key at filler found)) ∙ sym (value_of_entries o (map entry_of items) key are)

        pub entry_here : (es : List (Entry Value)) → o ≡ Some (Pairs es) → IsKeyList (keys_of es) × IsAt es key at was
        entry_here es e =
            let q = entries_are o (map entry_of items) es are e in
            let a : IsAt (map entry_of items) key at was = subst (λ w. IsAt (map entry_of items) key at w) (sym was_there) (entry_at (map entry_of items) key at filler found) in
            (subst (λ l. IsKeyList (keys_of l)) q ordered, subst (λ l. IsAt l key at was) q a)

  pub keys_here : IsKeyList (keys_of (map entry_of items)) → IsKeyList (keys_in p)
  keys_here l = subst IsKeyList (sym (keys_of_entries p (map entry_of items) are')) l

-- a new key that isn't refused has room
pub not_full : (o : Option Content) (items : List e.Entry) (key : List ℕ) (at : ℕ) → Some (map entry_of items) ≡ entries_in o → IsGap (keys_of (map entry_of items)) key at → (IsFull o key → ⊥) → length_in o < 2 ^ 20
not_full o items key at are gap f = elim (lt_or (length_in o) (2 ^ 20)) [ inl l ↦ l | inr l ↦ absurd (f (record { new = sym (missed_key o items key at are gap); long = l })) ]

-- the key in the middle of a search
pub key_middle : (items : List e.Entry) (i high : ℕ) (d : e.Entry) → i < high → high ≤ length (keys_of (map entry_of items)) → slice_get (keys_of (map entry_of items)) i ≡ Some (get_or items i d).key
key_middle items i high d l w =
    let a = map_length (λ (e : Entry Value). e.key) (map entry_of items) in let b = map_length entry_of items in
    key_shown items i d (omega arith)

pub same_key : (k l : List ℕ) → Equal ≡ slice_cmp nat_cmp k l → l ≡ k
same_key k l e = sym (exact_bytes k l (sym e))
