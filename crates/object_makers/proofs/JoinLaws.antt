-- How an associative array gets the entries of another one, one by one.
use Rattle.std.proofs.Common.{◌≡◌, ◌≢◌, ℕ, suc, ◌+◌, ◌^◌, ◌<◌, ◌≤◌, List, [], ◌∷◌, map, length, take, Option, Some, None, Bool, true, false, cond, refl, sym, ap, ◌∙◌, subst, arith, add-one, ◌⊎◌, inl, inr}
use Rattle.std.specs.Prelude.{slice_get, slice_set, option_map, nat_le, not}
use Rattle.std.specs.Option.{is_some, is_none, option_copied}
use denote.Bor.{Bor}
use Rattle.std.proofs.lemmas.Grind.{common_steps}
use Rattle.std.proofs.lemmas.Option.{slice_get_within}
use Rattle.chan_values.specs.Folded.{folded}
use Rattle.chan_values.specs.Portable.{IsKeyList}
use Rattle.chan_values.specs.declared.error_code.ErrorCode.TheVariants.{E2, E6, E12}
use Rattle.heap_meaning.specs.declared.plain.Plain.TheVariants.{Invalid}
use Rattle.heap_meaning.specs.Values.{Value, Direct, StoreValue, Reference, Entry}
use Rattle.heap_meaning.specs.Keys.{keys_of, value_at_key, with_key}
use Rattle.heap_meaning.specs.Store.{MapObject, Store}
use Rattle.heap_meaning.specs.Cells.{Content, occurrence}
use Rattle.heap_meaning.specs.Stands.{Naming, Outside, meaning, entry_meaning, Stands}
use Rattle.heap_meaning.specs.Heap.{Heap, Belongs, Moves, SetsKey, no_references, references_of, content_at}
use Rattle.heap_meaning.specs.Reading.{length_in, value_in, keys_in, HoldsPairs}
use Rattle.heap_meaning.proofs.Counts.{same_or}
use Rattle.heap_meaning.proofs.Writes.{get_set_same, get_set_other}
use Rattle.heap_meaning.proofs.Showing.{Seen, sees_plain, sees_text, sees_array, sees_pairs, sees_message, sees}
use Rattle.object_operations.specs.Answer.{Answer, Raises, entries_of, entries_of_object}
use Rattle.object_operations.specs.Maps.{joined, new_keys, joined_row, append_keys_row}
use Rattle.object_operations.specs.Applies.{Answers, AppliesToMap}
use Rattle.object_operations.specs.declared.applied.Applied.TheVariants as a
use Rattle.object_operations.proofs.Lists.{set_same, set_set, take_whole}
use Rattle.object_operations.proofs.Seeing.{first_belongs, second_belongs, map_held}
use Rattle.object_operations.proofs.Entries.{held_keys, held_value, held_entries, key_folded, entry_here, no_entry, value_here}
use Rattle.object_operations.proofs.Answering.{gave_plain, refusal}
use Rattle.object_makers.specs.Joins.{entry_list, Joins, Lacks, LacksKey}
use Rattle.object_makers.proofs.EntryCounts.{take_entry, joined_append, new_keys_append, joined_own, more_within}

-- what is read of the other associative array at a place
none_there : (h : Heap) (name : Naming) (store : Store) (before : Outside) (from : Value) (m : ℕ) (more : List (Entry StoreValue)) (i : ℕ) → Stands name h.cells store before → Belongs h from → meaning name from ≡ Reference m → slice_get store m ≡ Some (MapObject more)
    → slice_get (keys_in (content_at h from)) i ≡ None → slice_get more i ≡ None
none_there h name store before from m more i s b names row e =
    let held = map_held h name store before from m more s b names row in
    no_entry more i (sym (ap (λ l. slice_get l i) (held_keys h name from more held)) ∙ e)

-- no key stands at the place
pub lacks_none : (h : Heap) (pairs from : Value) (i : ℕ) → slice_get (keys_in (content_at h from)) i ≡ None → LacksKey h pairs from i false
lacks_none h pairs from i e = record {
  is = λ name store before n m entries more s o names row names' row'.
      let f = none_there h name store before from m more i s (second_belongs h name store before pairs from [] s o) names' row' e in
      sym (ap (λ x. new_keys entries (entry_list x)) f);
}

some_map : {A B : Type 0} (f : A → B) (x : Option A) → is_some (option_map f x) ≡ is_some x
some_map f None = refl
some_map f (Some v) = refl

turned : {A : Type 0} (o : Option A) → cond (is_some o) 0 1 + 0 ≡ cond (is_none o) 1 0
turned None = refl
turned (Some v) = refl

pub lacking : {A : Type 0} (x : Option (Bor A)) (b : Bool) → is_some x ≡ not b → b ≡ is_none (option_copied x)
lacking None true e = refl
lacking None false e = absurd cc
lacking (Some v) true e = absurd cc
lacking (Some v) false e = refl

pub counts_one : (b : Bool) (n m : ℕ) → b ≡ true → m ≡ n + 1 → m ≡ n + cond b 1 0
counts_one true n m e f = f
counts_one false n m e f = absurd cc

pub counts_none : (b : Bool) (n m : ℕ) → b ≡ false → m ≡ n → m ≡ n + cond b 1 0
counts_none true n m e f = absurd cc
counts_none false n m e f = omega arith

-- a key stands at the place
pub lacks_some : (h : Heap) (pairs from : Value) (i : ℕ) (key : List ℕ) (b : Bool) → IsKeyList (keys_in (content_at h from)) → slice_get (keys_in (content_at h from)) i ≡ Some key → b ≡ is_none (value_in (content_at h pairs) (folded key)) → LacksKey h pairs from i b
lacks_some h pairs from i key b l e f = record {
  is = λ name store before n m entries more s o names row names' row'.
      let held = map_held h name store before from m more s (second_belongs h name store before pairs from [] s o) names' row' in
      let k = held_keys h name from more held in
      let e' : slice_get (keys_of more) i ≡ Some key = sym (ap (λ l. slice_get l i) k) ∙ e in
      let x = entry_here more i key e' in
      let g : folded key ≡ key = key_folded (keys_of more) i key (subst IsKeyList k l) e' in
      let mine = map_held h name store before pairs n entries s (first_belongs h name store before pairs (from ∷ []) s o) names row in
      let v : is_some (value_at_key entries key) ≡ is_some (value_in (content_at h pairs) (folded key)) =
      ap (λ y. is_some (value_at_key entries y)) (sym g) ∙ ap is_some (held_value h name pairs entries (folded key) mine) ∙ some_map (meaning name) (value_in (content_at h pairs) (folded key)) in
      ap (λ y. cond y 1 0) f ∙ sym (turned (value_in (content_at h pairs) (folded key))) ∙ ap (λ y. cond y 0 1 + 0) (sym v) ∙ sym (ap (λ y. new_keys entries (entry_list y)) x.1);
}

-- the new keys of the first entries
pub lacks_first : (h : Heap) (pairs from : Value) → Lacks h pairs from 0 (take 0)
lacks_first h pairs from = record { is = λ name store before n m entries more s o names row names' row'. refl }

pub lacks_next : (h : Heap) (pairs from : Value) (count k : ℕ) (b : Bool) (next : ℕ) → next ≡ count + cond b 1 0 → Lacks h pairs from count (take k) → LacksKey h pairs from k b → Lacks h pairs from next (take (k + 1))
lacks_next h pairs from count k b next e x y = subst (λ j. Lacks h pairs from next (take j)) (sym (add-one k)) (record {
  is = λ name store before n m entries more s o names row names' row'.
      let f = x.is name store before n m entries more s o names row names' row' in
      let g = y.is name store before n m entries more s o names row names' row' in
      e ∙ ap (λ z. z + cond b 1 0) f ∙ ap (λ z. new_keys entries (take k more) + z) g ∙ sym (new_keys_append entries (take k more) (entry_list (slice_get more k))) ∙ ap (new_keys entries) (sym (take_entry more k));
})

pub lacks_all : (h : Heap) (pairs from : Value) (count k : ℕ) → k ≡ length_in (content_at h from) → Lacks h pairs from count (take k) → Lacks h pairs from count (λ more. more)
lacks_all h pairs from count k e x = record {
  is = λ name store before n m entries more s o names row names' row'.
      let held = map_held h name store before from m more s (second_belongs h name store before pairs from [] s o) names' row' in
      x.is name store before n m entries more s o names row names' row' ∙ ap (new_keys entries) (ap (λ j. take j more) (e ∙ held_entries h name from more held) ∙ take_whole more);
}

-- the store is as it was
same_store : (name : Naming) (h : Heap) (store : Store) (before : Outside) (n : ℕ) (entries other : List (Entry StoreValue)) → slice_get store n ≡ Some (MapObject entries) → other ≡ entries → Stands name h.cells store before → Stands name h.cells (slice_set store n (MapObject other)) before
same_store name h store before n entries other row e s = subst (λ x. Stands name h.cells x before) (sym (ap (λ l. slice_set store n (MapObject l)) e ∙ set_same store n (MapObject entries) row)) s

-- no entry stands at the place
pub joins_none : (h : Heap) (pairs from : Value) (i : ℕ) → slice_get (keys_in (content_at h from)) i ≡ None → Joins h h pairs from (λ more. entry_list (slice_get more i))
joins_none h pairs from i e = record {
  joins = λ name store before n m entries more s o names row names' row'.
      let f = none_there h name store before from m more i s (second_belongs h name store before pairs from [] s o) names' row' e in
      let g : joined entries (entry_list (slice_get more i)) ≡ entries = ap (λ x. joined entries (entry_list x)) f in
      record { stands = same_store name h store before n entries (joined entries (entry_list (slice_get more i))) row g s; itself = λ q. g };
}

-- the cell of an associative array holds its entries
pub pairs_hold : (h : Heap) (name : Naming) (store : Store) (before : Outside) (v : Value) (n : ℕ) (entries : List (Entry StoreValue)) → Stands name h.cells store before → Belongs h v → meaning name v ≡ Reference n → slice_get store n ≡ Some (MapObject entries) → HoldsPairs (content_at h v)
pairs_hold h name store before v n entries s b names row = let held = map_held h name store before v n entries s b names row in subst HoldsPairs (sym held.content) tt

pub joins_no_map : (h h1 : Heap) (pairs from : Value) (part : List (Entry StoreValue) → List (Entry StoreValue)) → (HoldsPairs (content_at h pairs) → ⊥) → Joins h h1 pairs from part
joins_no_map h h1 pairs from part d = record {
  joins = λ name store before n m entries more s o names row names' row'. absurd (d (pairs_hold h name store before pairs n entries s (first_belongs h name store before pairs (from ∷ []) s o) names row));
}

-- a key has a value
pub joins_missing : (h h1 : Heap) (pairs from : Value) (i : ℕ) (key : List ℕ) → IsKeyList (keys_in (content_at h from)) → slice_get (keys_in (content_at h from)) i ≡ Some key → value_in (content_at h from) (folded key) ≡ None → Joins h h1 pairs from (λ more. entry_list (slice_get more i))
joins_missing h h1 pairs from i key l e none = record {
  joins = λ name store before n m entries more s o names row names' row'.
      let held = map_held h name store before from m more s (second_belongs h name store before pairs from [] s o) names' row' in
      let k = held_keys h name from more held in
      let e' : slice_get (keys_of more) i ≡ Some key = sym (ap (λ l. slice_get l i) k) ∙ e in
      let l' : IsKeyList (keys_of more) = subst IsKeyList k l in
      let x = entry_here more i key e' in
      let v = value_here more i key x.0 l' x.1 in
      let w = ap (value_at_key more) (sym (key_folded (keys_of more) i key l' e')) ∙ held_value h name from more (folded key) held ∙ ap (option_map (meaning name)) none in
      let z : None ≡ Some x.0 = sym w ∙ v in
      absurd cc;
}

pub at_key : (h1 h2 : Heap) (pairs item : Value) (key other : List ℕ) → other ≡ key → SetsKey h1 h2 pairs other item → SetsKey h1 h2 pairs key item
at_key h1 h2 pairs item key other e sets = subst (λ (k : List ℕ). SetsKey h1 h2 pairs k item) e sets

-- the value at the key is shared, and put at the same key
pub joins_entry : (h h1 h2 : Heap) (pairs from item : Value) (i : ℕ) (key : List ℕ) → IsKeyList (keys_in (content_at h from)) → slice_get (keys_in (content_at h from)) i ≡ Some key → value_in (content_at h from) (folded key) ≡ Some item → Moves h h1 no_references (references_of item) → SetsKey h1 h2 pairs key item
    → Joins h h2 pairs from (λ more. entry_list (slice_get more i))
joins_entry h h1 h2 pairs from item i key l e some moves sets = record {
  joins = λ name store before n m entries more s o names row names' row'.
      let held = map_held h name store before from m more s (second_belongs h name store before pairs from [] s o) names' row' in
      let k = held_keys h name from more held in
      let e' : slice_get (keys_of more) i ≡ Some key = sym (ap (λ l. slice_get l i) k) ∙ e in
      let l' : IsKeyList (keys_of more) = subst IsKeyList k l in
      let x = entry_here more i key e' in
      let g : folded key ≡ key = key_folded (keys_of more) i key l' e' in
      let v : Some x.0 ≡ Some (meaning name item) = sym (value_here more i key x.0 l' x.1) ∙ ap (value_at_key more) (sym g) ∙ held_value h name from more (folded key) held ∙ ap (option_map (meaning name)) some in
      let w : x.0 ≡ meaning name item = cc in
      let mid : Outside = λ k. occurrence k item + before k in
      let t = moves name store before mid s (λ k. omega arith) in
      let b1 = first_belongs h1 name store mid pairs [] t (λ k. let y = o k in omega arith) in
      let u = sets name store mid before n entries t b1 names row (λ k. omega arith) in
      let f : with_key entries (folded key) (meaning name item) ≡ joined entries (entry_list (slice_get more i)) = ap (λ y. with_key entries y (meaning name item)) g ∙ ap (with_key entries key) (sym w) ∙ sym (ap (λ y. joined entries (entry_list y)) x.1) in
      record { stands = subst (λ y. Stands name h2.cells (slice_set store n (MapObject y)) before) f u; itself = own store n m entries more i l' row row' };
}
  where
    own : (store : Store) (n m : ℕ) (entries more : List (Entry StoreValue)) (i : ℕ) → IsKeyList (keys_of more) → slice_get store n ≡ Some (MapObject entries) → slice_get store m ≡ Some (MapObject more) → n ≡ m → joined entries (entry_list (slice_get more i)) ≡ entries
    own store n m entries more i l row row' q =
        let f : slice_get store n ≡ Some (MapObject more) = subst (λ j. slice_get store j ≡ Some (MapObject more)) (sym q) row' in
        let same : entries ≡ more = cc in
        ap (λ y. joined y (entry_list (slice_get more i))) same ∙ joined_own more i l ∙ sym same

-- the first entries
pub joins_first : (h : Heap) (pairs from : Value) → Joins h h pairs from (take 0)
joins_first h pairs from = record {
  joins = λ name store before n m entries more s o names row names' row'. record { stands = same_store name h store before n entries entries row refl s; itself = λ q. refl };
}

pub joins_next : (h h1 h2 : Heap) (pairs from : Value) (k : ℕ) → Joins h h1 pairs from (take k) → Joins h1 h2 pairs from (λ more. entry_list (slice_get more k)) → Joins h h2 pairs from (take (k + 1))
joins_next h h1 h2 pairs from k x y = subst (λ j. Joins h h2 pairs from (take j)) (sym (add-one k)) (record {
  joins = λ name store before n m entries more s o names row names' row'.
      let t = x.joins name store before n m entries more s o names row names' row' in
      let wider : List (Entry StoreValue) = joined entries (take k more) in
      let mine = get_set_same store n (MapObject wider) (slice_get_within store n (MapObject entries) row) in
      let e : joined wider (entry_list (slice_get more k)) ≡ joined entries (take (suc k) more) = sym (joined_append entries (take k more) (entry_list (slice_get more k))) ∙ ap (joined entries) (sym (take_entry more k)) in
      let other = beside store n m entries more wider row row' t.itself (same_or m n) in
      let u = y.joins name (slice_set store n (MapObject wider)) before n m wider more t.stands o names mine names' other in
      record {
        stands = subst (λ z. Stands name h2.cells z before) (set_set store n (MapObject wider) (MapObject (joined wider (entry_list (slice_get more k)))) ∙ ap (λ l. slice_set store n (MapObject l)) e) u.stands;
        itself = λ q. sym e ∙ u.itself q ∙ t.itself q;
      };
})
  where
    beside : (store : Store) (n m : ℕ) (entries more wider : List (Entry StoreValue)) → slice_get store n ≡ Some (MapObject entries) → slice_get store m ≡ Some (MapObject more) → (n ≡ m → wider ≡ entries) → (m ≡ n) ⊎ (m ≢ n)
        → slice_get (slice_set store n (MapObject wider)) m ≡ Some (MapObject more)
    beside store n m entries more wider row row' same (inl q) =
        let f : slice_get store n ≡ Some (MapObject more) = subst (λ j. slice_get store j ≡ Some (MapObject more)) q row' in
        let e : Some (MapObject entries) ≡ Some (MapObject more) = sym row ∙ f in
        ap (slice_get (slice_set store n (MapObject wider))) q ∙ get_set_same store n (MapObject wider) (slice_get_within store n (MapObject entries) row) ∙ ap (λ l. Some (MapObject l)) (same (sym q)) ∙ e
    beside store n m entries more wider row row' same (inr d) = get_set_other store n m (MapObject wider) d ∙ row'

-- what is appended is no associative array
no_map : (h : Heap) (name : Naming) (store : Store) (before : Outside) (v : Value) → Stands name h.cells store before → Belongs h v → (HoldsPairs (content_at h v) → ⊥) → entries_of (meaning name v) store ≡ None
no_map h name store before v s b other = go v (meaning name v) (content_at h v) (sees h name store before v s b) other
  where
    go : (u : Value) (w : StoreValue) (o : Option Content) → Seen name store u w o → (HoldsPairs o → ⊥) → entries_of w store ≡ None
    go _ _ _ sees_plain x = refl
    go _ _ _ sees_text x = refl
    go _ _ _ (sees_pairs g) x = absurd (x tt)
    go _ _ _ (sees_array g) x = ap entries_of_object g
    go _ _ _ (sees_message g) x = ap entries_of_object g

pub appends_no_map : (h : Heap) (pairs from : Value) → (HoldsPairs (content_at h from) → ⊥) → AppliesToMap h h pairs (from ∷ []) (a.Raised E2) append_keys_row
appends_no_map h pairs from other = record {
  answers = λ name store before n entries s o names row.
      let f = no_map h name store before from s (second_belongs h name store before pairs from [] s o) other in
      subst (λ x. Answers name h store before (a.Raised E2) (joined_row n entries x store)) (sym f) (refusal name h store before E2 s);
}

-- the associative array for which that of the heap stands
record MapShown (name : Naming) (store : Store) (v : Value) : Type 0 where
  object : ℕ
  entries : List (Entry StoreValue)
  names : meaning name v ≡ Reference object
  there : slice_get store object ≡ Some (MapObject entries)

map_shown : (h : Heap) (name : Naming) (store : Store) (before : Outside) (v : Value) → Stands name h.cells store before → Belongs h v → HoldsPairs (content_at h v) → MapShown name store v
map_shown h name store before v s b holds = go v (meaning name v) (content_at h v) (sees h name store before v s b) refl holds
  where
    go : (u : Value) (w : StoreValue) (o : Option Content) → Seen name store u w o → meaning name v ≡ w → HoldsPairs o → MapShown name store v
    go _ _ _ sees_plain e x = absurd x
    go _ _ _ sees_text e x = absurd x
    go _ _ _ (sees_array g) e x = absurd x
    go _ _ _ (sees_pairs {n = n} {es = es} g) e x = record { object = n; entries = map (entry_meaning name) es; names = e; there = g }
    go _ _ _ (sees_message g) e x = absurd x

too_many : (m : ℕ) (x : Answer) → 2 ^ 20 < m → cond (nat_le m (2 ^ 20)) x (Raises E12) ≡ Raises E12
too_many m x l = grind (arith, common_steps)

few_enough : (m : ℕ) (x : Answer) → m ≤ 2 ^ 20 → cond (nat_le m (2 ^ 20)) x (Raises E12) ≡ x
few_enough m x l = grind (arith, common_steps)

pub appends_too_many : (h : Heap) (pairs from : Value) (count : ℕ) → HoldsPairs (content_at h from) → (0 < length_in (content_at h from) → IsKeyList (keys_in (content_at h from))) → Lacks h pairs from count (λ more. more)
    → (2 ^ 20 < length_in (content_at h from)) ⊎ (2 ^ 20 < length_in (content_at h pairs) + count) → AppliesToMap h h pairs (from ∷ []) (a.Raised E12) append_keys_row
appends_too_many h pairs from count holds ordered lacks long = record {
  answers = λ name store before n entries s o names row.
      let b = second_belongs h name store before pairs from [] s o in
      let x = map_shown h name store before from s b holds in
      let mine = held_entries h name pairs entries (map_held h name store before pairs n entries s (first_belongs h name store before pairs (from ∷ []) s o) names row) in
      let other = map_held h name store before from x.object x.entries s b x.names x.there in
      let q = held_entries h name from x.entries other in
      let c = lacks.is name store before n x.object entries x.entries s o names row x.names x.there in
      let f : entries_of (meaning name from) store ≡ Some x.entries = ap (λ w. entries_of w store) x.names ∙ ap entries_of_object x.there in
      let k = held_keys h name from x.entries other in
      let g : 2 ^ 20 < length entries + new_keys entries x.entries = elim long [
        | inl l ↦ (let w = more_within entries x.entries (subst IsKeyList k (ordered (omega arith))) in omega arith)
        | inr l ↦ omega arith
      ] in
      subst (λ y. Answers name h store before (a.Raised E12) (joined_row n entries y store)) (sym f) (subst (Answers name h store before (a.Raised E12)) (sym (too_many (length entries + new_keys entries x.entries) _ g)) (refusal name h store before E12 s));
}

pub appends_map : (h h1 : Heap) (pairs from : Value) (count k : ℕ) → HoldsPairs (content_at h from) → Lacks h pairs from count (λ more. more) → length_in (content_at h pairs) + count ≤ 2 ^ 20 → k ≡ length_in (content_at h from) → Joins h h1 pairs from (take k)
    → AppliesToMap h h1 pairs (from ∷ []) (a.Value (Direct Invalid)) append_keys_row
appends_map h h1 pairs from count k holds lacks room e joins = record {
  answers = λ name store before n entries s o names row.
      let b = second_belongs h name store before pairs from [] s o in
      let x = map_shown h name store before from s b holds in
      let mine = held_entries h name pairs entries (map_held h name store before pairs n entries s (first_belongs h name store before pairs (from ∷ []) s o) names row) in
      let q = held_entries h name from x.entries (map_held h name store before from x.object x.entries s b x.names x.there) in
      let c = lacks.is name store before n x.object entries x.entries s o names row x.names x.there in
      let f : entries_of (meaning name from) store ≡ Some x.entries = ap (λ w. entries_of w store) x.names ∙ ap entries_of_object x.there in
      let t = joins.joins name store before n x.object entries x.entries s o names row x.names x.there in
      let u = subst (λ l. Stands name h1.cells (slice_set store n (MapObject (joined entries l))) before) (ap (λ j. take j x.entries) (e ∙ q) ∙ take_whole x.entries) t.stands in
      subst (λ y. Answers name h1 store before (a.Value (Direct Invalid)) (joined_row n entries y store)) (sym f)
      (subst (Answers name h1 store before (a.Value (Direct Invalid))) (sym (few_enough (length entries + new_keys entries x.entries) _ (omega arith))) (gave_plain name h1 _ before Invalid u));
}

-- `append(aa)` takes one argument
pub no_append_arguments : (h : Heap) (pairs : Value) (arguments : List Value) → (length arguments ≢ 1) → AppliesToMap h h pairs arguments (a.Raised E6) append_keys_row
no_append_arguments h pairs [] d = record { answers = λ name store before n entries s o names row. refusal name h store before E6 s }
no_append_arguments h pairs (v ∷ []) d = absurd (d refl)
no_append_arguments h pairs (v ∷ w ∷ vs) d = record { answers = λ name store before n entries s o names row. refusal name h store before E6 s }
