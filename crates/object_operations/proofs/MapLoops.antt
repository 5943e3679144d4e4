-- What calls that write an associative array key by key do to that of the store.
use Rattle.std.proofs.Common.{◌≡◌, ℕ, suc, ◌+◌, List, [], take, Some, None, sym, ap, ◌∙◌, subst, arith}
use Rattle.std.specs.Prelude.{slice_get, slice_set, option_map}
use Rattle.std.specs.List.{remove}
use Rattle.std.proofs.lemmas.Option.{slice_get_within}
use Rattle.chan_values.specs.Folded.{folded}
use Rattle.chan_values.specs.Portable.{IsKeyList}
use Rattle.heap_meaning.specs.declared.plain.Plain.TheVariants.{Invalid}
use Rattle.heap_meaning.specs.Values.{Value, Direct, StoreValue, Entry}
use Rattle.heap_meaning.specs.Keys.{keys_of, value_at_key, without_key}
use Rattle.heap_meaning.specs.Store.{MapObject, Store}
use Rattle.heap_meaning.specs.Cells.{occurrence}
use Rattle.heap_meaning.specs.Stands.{Naming, Outside, meaning, Stands}
use Rattle.heap_meaning.specs.Heap.{Heap, Moves, TakesKey, no_references, references_of, content_at}
use Rattle.heap_meaning.specs.Reading.{length_in, value_in, keys_in}
use Rattle.heap_meaning.proofs.Writes.{get_set_same}
use Rattle.object_operations.specs.Maps.{method_of_map}
use Rattle.object_operations.specs.declared.map_method.MapMethod.TheVariants.{Clear}
use Rattle.object_operations.specs.Applies.{AppliesToMap, MapBecomes}
use Rattle.object_operations.specs.declared.applied.Applied.TheVariants as a
use Rattle.object_operations.proofs.Lists.{set_same, set_set, remove_past, remove_last, take_whole}
use Rattle.object_operations.proofs.Seeing.{first_belongs, map_held}
use Rattle.object_operations.proofs.Entries.{held_keys, held_value, held_entries, key_folded, entry_here, no_entry, without_here, value_here}
use Rattle.object_operations.proofs.Answering.{gave_plain}

module _ (name : Naming) (new : Heap) (store : Store) (before : Outside) (n : ℕ) (entries : List (Entry StoreValue)) (row : slice_get store n ≡ Some (MapObject entries)) where
  pub map_unchanged : (entries' : List (Entry StoreValue)) → entries' ≡ entries → Stands name new.cells store before → Stands name new.cells (slice_set store n (MapObject entries')) before
  map_unchanged entries' e s = subst (λ x. Stands name new.cells x before) (sym (ap (λ l. slice_set store n (MapObject l)) e ∙ set_same store n (MapObject entries) row)) s

  pub map_row_set : (entries' : List (Entry StoreValue)) → slice_get (slice_set store n (MapObject entries')) n ≡ Some (MapObject entries')
  map_row_set entries' = get_set_same store n (MapObject entries') (slice_get_within store n (MapObject entries) row)

  pub map_again : (entries' entries'' last : List (Entry StoreValue)) → entries'' ≡ last → Stands name new.cells (slice_set (slice_set store n (MapObject entries')) n (MapObject entries'')) before → Stands name new.cells (slice_set store n (MapObject last)) before
  map_again entries' entries'' last e s = subst (λ x. Stands name new.cells x before) (set_set store n (MapObject entries') (MapObject entries'') ∙ ap (λ l. slice_set store n (MapObject l)) e) s

-- no key stands at the place
pub drops_no_key : (h : Heap) (pairs : Value) (i : ℕ) → slice_get (keys_in (content_at h pairs)) i ≡ None → MapBecomes h h pairs (λ entries. remove entries i)
drops_no_key h pairs i e = record {
  stands = λ name store before n entries s o names row.
      let held = map_held h name store before pairs n entries s (first_belongs h name store before pairs [] s o) names row in
      let f : slice_get entries i ≡ None = no_entry entries i (sym (ap (λ l. slice_get l i) (held_keys h name pairs entries held)) ∙ e) in
      map_unchanged name h store before n entries row (remove entries i) (remove_past entries i f) s;
}

-- a key at a place has a value
pub drops_missing : (h h1 : Heap) (pairs : Value) (i : ℕ) (key : List ℕ) → IsKeyList (keys_in (content_at h pairs)) → slice_get (keys_in (content_at h pairs)) i ≡ Some key → value_in (content_at h pairs) (folded key) ≡ None → MapBecomes h h1 pairs (λ entries. remove entries i)
drops_missing h h1 pairs i key l e none = record {
  stands = λ name store before n entries s o names row.
      let held = map_held h name store before pairs n entries s (first_belongs h name store before pairs [] s o) names row in
      let k = held_keys h name pairs entries held in
      let e' : slice_get (keys_of entries) i ≡ Some key = sym (ap (λ l. slice_get l i) k) ∙ e in
      let l' : IsKeyList (keys_of entries) = subst IsKeyList k l in
      let x = entry_here entries i key e' in
      let v = value_here entries i key x.0 l' x.1 in
      let w = ap (value_at_key entries) (sym (key_folded (keys_of entries) i key l' e')) ∙ held_value h name pairs entries (folded key) held ∙ ap (option_map (meaning name)) none in
      let z : None ≡ Some x.0 = sym w ∙ v in
      absurd cc;
}

-- the key at a place is taken out and its value released
pub drops_key : (h h1 h2 : Heap) (pairs item : Value) (i : ℕ) (key : List ℕ) → IsKeyList (keys_in (content_at h pairs)) → slice_get (keys_in (content_at h pairs)) i ≡ Some key → TakesKey h h1 pairs key item → Moves h1 h2 (references_of item) no_references
    → MapBecomes h h2 pairs (λ entries. remove entries i)
drops_key h h1 h2 pairs item i key l e takes back = record {
  stands = λ name store before n entries s o names row.
      let b = first_belongs h name store before pairs [] s o in
      let held = map_held h name store before pairs n entries s b names row in
      let k = held_keys h name pairs entries held in
      let e' : slice_get (keys_of entries) i ≡ Some key = sym (ap (λ l. slice_get l i) k) ∙ e in
      let l' : IsKeyList (keys_of entries) = subst IsKeyList k l in
      let mid : Outside = λ k. before k + occurrence k item in
      let t = takes name store before mid n entries s b names row (λ k. omega arith) in
      let u = back name _ mid before t (λ k. omega arith) in
      subst (λ x. Stands name h2.cells (slice_set store n (MapObject x)) before) (ap (without_key entries) (key_folded (keys_of entries) i key l' e') ∙ without_here entries i key l' e') u;
}

-- clearing, from the last key down
pub clear_keys_start : (h : Heap) (pairs : Value) (k : ℕ) → k ≡ length_in (content_at h pairs) → MapBecomes h h pairs (take k)
clear_keys_start h pairs k e = record {
  stands = λ name store before n entries s o names row.
      let f = held_entries h name pairs entries (map_held h name store before pairs n entries s (first_belongs h name store before pairs [] s o) names row) in
      map_unchanged name h store before n entries row (take k entries) (ap (λ j. take j entries) (e ∙ f) ∙ take_whole entries) s;
}

pub clear_keys_step : (h h1 h2 : Heap) (pairs : Value) (left k : ℕ) → left ≡ suc k → MapBecomes h h1 pairs (take left) → MapBecomes h1 h2 pairs (λ entries. remove entries k) → MapBecomes h h2 pairs (take k)
clear_keys_step h h1 h2 pairs left k e x y = record {
  stands = λ name store before n entries s o names row.
      let t = subst (λ j. Stands name h1.cells (slice_set store n (MapObject (take j entries))) before) e (x.stands name store before n entries s o names row) in
      let u = y.stands name _ before n (take (suc k) entries) t o names (map_row_set name h store before n entries row (take (suc k) entries)) in
      map_again name h2 store before n entries row (take (suc k) entries) (remove (take (suc k) entries) k) (take k entries) (remove_last entries k) u;
}

pub clears_keys : (h h1 : Heap) (pairs : Value) (left : ℕ) → left ≡ 0 → MapBecomes h h1 pairs (take left) → AppliesToMap h h1 pairs [] (a.Value (Direct Invalid)) (method_of_map Clear)
clears_keys h h1 pairs left e x = record {
  answers = λ name store before n entries s o names row.
      gave_plain name h1 _ before Invalid (subst (λ j. Stands name h1.cells (slice_set store n (MapObject (take j entries))) before) e (x.stands name store before n entries s o names row));
}
