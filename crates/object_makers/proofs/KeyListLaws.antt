-- How an array gets the keys of an associative array, one by one.
use Rattle.std.proofs.Common.{◌≡◌, ◌≢◌, ℕ, zero, suc, ◌+◌, ◌≤◌, List, [], ◌∷◌, ◌++◌, map, length, take, Some, None, refl, sym, ap, ◌∙◌, subst, arith, add-one, append_assoc, ◌⊎◌, inl, inr}
use Rattle.std.specs.Prelude.{slice_get, slice_set, option_map}
use Rattle.std.specs.List.{insert}
use Rattle.std.proofs.lemmas.List.Edits.{insert_end}
use Rattle.std.proofs.lemmas.Option.{slice_get_within}
use Rattle.chan_values.specs.declared.error_code.ErrorCode.TheVariants.{E6}
use Rattle.heap_meaning.specs.Values.{Value, Cell, Direct, StoreValue, Words, Entry}
use Rattle.heap_meaning.specs.Keys.{keys_of}
use Rattle.heap_meaning.specs.Store.{ArrayObject, MapObject, Store}
use Rattle.heap_meaning.specs.Cells.{Content, Array, HeldCell, cell_at, occurrence}
use Rattle.heap_meaning.specs.Stands.{Naming, Outside, meaning, Stands, Agrees}
use Rattle.heap_meaning.specs.Heap.{Heap, MakesText, MakesObject, InsertsItem, content_at}
use Rattle.heap_meaning.specs.Framing.{Fresh}
use Rattle.heap_meaning.specs.Reading.{length_in, keys_in, HoldsArray}
use Rattle.heap_meaning.proofs.Counts.{same_or, occurrence_self}
use Rattle.heap_meaning.proofs.Writes.{get_set_same, get_set_other}
use Rattle.object_operations.specs.Maps.{keys_row}
use Rattle.object_operations.specs.Applies.{AreOut, AppliesToMap}
use Rattle.object_operations.specs.declared.applied.Applied.TheVariants as a
use Rattle.object_operations.proofs.Lists.{set_same, set_set, take_whole, append_none}
use Rattle.object_operations.proofs.Seeing.{first_belongs, array_held, held_length, map_held}
use Rattle.object_operations.proofs.Entries.{held_keys, held_entries}
use Rattle.object_makers.specs.KeyLists.{key_list, PushesKeys}
use Rattle.object_operations.proofs.Answering.{refusal}

-- a value that is out stands for the same under both names
pub meaning_agrees : (name name' : Naming) (before : Outside) (v : Value) → Agrees name name' before → ((k : ℕ) → occurrence k v ≤ before k) → meaning name' v ≡ meaning name v
meaning_agrees name name' before (Direct plain) g o = refl
meaning_agrees name name' before (Cell k) g o = g k (let x = o k in let y = occurrence_self k in omega arith)

-- an object at the end of a store
pub get_front_of : {A : Type 0} (xs : List A) (y : A) (i : ℕ) (x : A) → slice_get xs i ≡ Some x → slice_get (xs ++ y ∷ []) i ≡ Some x
get_front_of [] y i x e = absurd cc
get_front_of (z ∷ xs) y zero x e = e
get_front_of (z ∷ xs) y (suc i) x e = get_front_of xs y i x e

pub get_end : {A : Type 0} (xs : List A) (y : A) → slice_get (xs ++ y ∷ []) (length xs) ≡ Some y
get_end [] y = refl
get_end (z ∷ xs) y = get_end xs y

pub set_end : {A : Type 0} (xs : List A) (y z : A) → slice_set (xs ++ y ∷ []) (length xs) z ≡ xs ++ z ∷ []
set_end [] y z = refl
set_end (x ∷ xs) y z = ap (λ r. x ∷ r) (set_end xs y z)

pub take_key : (keys : List (List ℕ)) (k : ℕ) → take (suc k) keys ≡ take k keys ++ key_list (slice_get keys k)
take_key [] zero = refl
take_key [] (suc k) = refl
take_key (x ∷ xs) zero = refl
take_key (x ∷ xs) (suc k) = ap (λ r. x ∷ r) (take_key xs k)

words_append : (xs ys : List (List ℕ)) → map Words (xs ++ ys) ≡ map Words xs ++ map Words ys
words_append [] ys = refl
words_append (x ∷ xs) ys = ap (λ r. Words x ∷ r) (words_append xs ys)

more_words : (items : List StoreValue) (keys : List (List ℕ)) (k : ℕ) → (items ++ map Words (take k keys)) ++ map Words (key_list (slice_get keys k)) ≡ items ++ map Words (take (suc k) keys)
more_words items keys k =
    append_assoc items (map Words (take k keys)) (map Words (key_list (slice_get keys k)))
    ∙ ap (λ r. items ++ r) (sym (words_append (take k keys) (key_list (slice_get keys k))) ∙ ap (map Words) (sym (take_key keys k)))

-- the array stays an array
pub fresh_keeps_array : (old new : Heap) (v w : Value) (content : Content) → Fresh old new v content → HoldsArray (content_at old w) → HoldsArray (content_at new w)
fresh_keeps_array old new v (Direct plain) content f h = absurd h
fresh_keeps_array old new v (Cell k) content f h = elim (same_or k f.place) [
  | inl e ↦ absurd (subst (λ c. HoldsArray (option_map (λ (x : HeldCell). x.content) c)) (ap (cell_at old.cells) e ∙ f.vacant) h)
  | inr d ↦ subst (λ c. HoldsArray (option_map (λ (x : HeldCell). x.content) c)) (sym (f.others k d)) h
]

pub fresh_array : (old new : Heap) (v : Value) (items : List Value) → Fresh old new v (Array items) → HoldsArray (content_at new v)
fresh_array old new v items f =
    let e : content_at new v ≡ Some (Array items) = ap (content_at new) f.is ∙ ap (option_map (λ (x : HeldCell). x.content)) f.holds in
    subst HoldsArray (sym e) tt

-- no key stands at the place
pub pushes_no_key : (h : Heap) (pairs list : Value) (i : ℕ) → slice_get (keys_in (content_at h pairs)) i ≡ None → PushesKeys h h pairs list (λ keys. key_list (slice_get keys i))
pushes_no_key h pairs list i e = record {
  stands = λ name store before n m entries items s o names row names' row'.
      let held = map_held h name store before pairs n entries s (first_belongs h name store before pairs (list ∷ []) s o) names row in
      let f : slice_get (keys_of entries) i ≡ None = sym (ap (λ l. slice_get l i) (held_keys h name pairs entries held)) ∙ e in
      let g : items ++ map Words (key_list (slice_get (keys_of entries) i)) ≡ items = ap (λ x. items ++ map Words (key_list x)) f ∙ append_none items in
      record { naming = name; agrees = λ k p. refl; stands = subst (λ x. Stands name h.cells x before) (sym (ap (λ l. slice_set store m (ArrayObject l)) g ∙ set_same store m (ArrayObject items) row')) s };
}

-- the key at the place becomes a text, which is put at the end
pub pushes_key : (h h1 h2 : Heap) (pairs list text : Value) (i end : ℕ) (key : List ℕ) → slice_get (keys_in (content_at h pairs)) i ≡ Some key → MakesText h h1 text key → end ≡ length_in (content_at h1 list) → InsertsItem h1 h2 list end text
    → PushesKeys h h2 pairs list (λ keys. key_list (slice_get keys i))
pushes_key h h1 h2 pairs list text i end key e made at puts = record {
  stands = λ name store before n m entries items s o names row names' row'.
      let held = map_held h name store before pairs n entries s (first_belongs h name store before pairs (list ∷ []) s o) names row in
      let f : slice_get (keys_of entries) i ≡ Some key = sym (ap (λ l. slice_get l i) (held_keys h name pairs entries held)) ∙ e in
      let mid : Outside = λ k. occurrence k text + before k in
      let r = made name store before mid s (λ k. refl) in
      let q = meaning_agrees name r.naming before list r.agrees (λ k. let x = o k in omega arith) ∙ names' in
      let b = first_belongs h1 r.naming store mid list [] r.stands (λ k. let x = o k in omega arith) in
      let l = held_length h1 r.naming list items (array_held h1 r.naming store mid list m items r.stands b q row') in
      let u = puts r.naming store mid before m items r.stands b q row' (λ k. omega arith) in
      let g : insert items end (meaning r.naming text) ≡ items ++ map Words (key_list (slice_get (keys_of entries) i)) =
      ap (λ j. insert items j (meaning r.naming text)) (at ∙ l) ∙ insert_end items (meaning r.naming text) ∙ ap (λ w. items ++ w ∷ []) r.shows ∙ ap (λ x. items ++ map Words (key_list x)) (sym f) in
      record { naming = r.naming; agrees = r.agrees; stands = subst (λ x. Stands r.naming h2.cells (slice_set store m (ArrayObject x)) before) g u };
}

-- the first keys
pub pushes_first : (h : Heap) (pairs list : Value) → PushesKeys h h pairs list (take 0)
pushes_first h pairs list = record {
  stands = λ name store before n m entries items s o names row names' row'.
      record { naming = name; agrees = λ k p. refl; stands = subst (λ x. Stands name h.cells x before) (sym (ap (λ l. slice_set store m (ArrayObject l)) (append_none items) ∙ set_same store m (ArrayObject items) row')) s };
}

pub pushes_next : (h h1 h2 : Heap) (pairs list : Value) (k : ℕ) → PushesKeys h h1 pairs list (take k) → PushesKeys h1 h2 pairs list (λ keys. key_list (slice_get keys k)) → PushesKeys h h2 pairs list (take (k + 1))
pushes_next h h1 h2 pairs list k x y = subst (λ j. PushesKeys h h2 pairs list (take j)) (sym (add-one k)) (record {
  stands = λ name store before n m entries items s o names row names' row'.
      let r = x.stands name store before n m entries items s o names row names' row' in
      let longer : List StoreValue = items ++ map Words (take k (keys_of entries)) in
      let p = meaning_agrees name r.naming before pairs r.agrees (λ j. let z = o j in omega arith) ∙ names in
      let q = meaning_agrees name r.naming before list r.agrees (λ j. let z = o j in omega arith) ∙ names' in
      let t = y.stands r.naming (slice_set store m (ArrayObject longer)) before n m entries longer r.stands o p (other store n m entries items longer row row' (same_or n m)) q (get_set_same store m (ArrayObject longer) (slice_get_within store m (ArrayObject items) row')) in
      let e = set_set store m (ArrayObject longer) (ArrayObject (longer ++ map Words (key_list (slice_get (keys_of entries) k)))) ∙ ap (λ l. slice_set store m (ArrayObject l)) (more_words items (keys_of entries) k) in
      record { naming = t.naming; agrees = λ j p. t.agrees j p ∙ r.agrees j p; stands = subst (λ z. Stands t.naming h2.cells z before) e t.stands };
})
  where
    other : (store : Store) (n m : ℕ) (entries : List (Entry StoreValue)) (items longer : List StoreValue) → slice_get store n ≡ Some (MapObject entries) → slice_get store m ≡ Some (ArrayObject items) → (n ≡ m) ⊎ (n ≢ m)
        → slice_get (slice_set store m (ArrayObject longer)) n ≡ Some (MapObject entries)
    other store n m entries items longer row row' (inl e) = absurd (let g : slice_get store m ≡ Some (MapObject entries) = subst (λ i. slice_get store i ≡ Some (MapObject entries)) e row in cc)
    other store n m entries items longer row row' (inr d) = get_set_other store m n (ArrayObject longer) d ∙ row

-- a new array gets all keys
pub lists_keys : (h h1 h2 : Heap) (pairs list : Value) (k : ℕ) → MakesObject h h1 list (ArrayObject []) → k ≡ length_in (content_at h1 pairs) → PushesKeys h1 h2 pairs list (take k) → AppliesToMap h h2 pairs [] (a.Value list) keys_row
lists_keys h h1 h2 pairs list k made e pushes = record {
  answers = λ name store before n entries s o names row.
      let mid : Outside = λ j. occurrence j list + before j in
      let r = made name store before mid s (λ j. refl) in
      let p = meaning_agrees name r.naming before pairs r.agrees (λ j. let z = o j in omega arith) ∙ names in
      let longer : Store = store ++ ArrayObject [] ∷ [] in
      let there : slice_get longer n ≡ Some (MapObject entries) = get_front_of store (ArrayObject []) n (MapObject entries) row in
      let out : AreOut (pairs ∷ list ∷ []) mid = λ j. let z = o j in omega arith in
      let l = held_entries h1 r.naming pairs entries (map_held h1 r.naming longer mid pairs n entries r.stands (first_belongs h1 r.naming longer mid pairs (list ∷ []) r.stands out) p there) in
      let t = pushes.stands r.naming longer mid n (length store) entries [] r.stands out p there r.shows (get_end store (ArrayObject [])) in
      let whole : take k (keys_of entries) ≡ keys_of entries = ap (λ j. take j (keys_of entries)) (e ∙ l ∙ sym (keys_length entries)) ∙ take_whole (keys_of entries) in
      let g : slice_set longer (length store) (ArrayObject (map Words (take k (keys_of entries)))) ≡ store ++ ArrayObject (map Words (keys_of entries)) ∷ [] =
      set_end store (ArrayObject []) (ArrayObject (map Words (take k (keys_of entries)))) ∙ ap (λ x. store ++ ArrayObject (map Words x) ∷ []) whole in
      record {
        naming = t.naming;
        agrees = λ j p. t.agrees j (omega arith) ∙ r.agrees j p;
        shows = meaning_agrees r.naming t.naming mid list t.agrees (λ j. omega arith) ∙ r.shows;
        stands = subst (λ x. Stands t.naming h2.cells x mid) g t.stands;
      };
}
  where
    keys_length : (es : List (Entry StoreValue)) → length (keys_of es) ≡ length es
    keys_length [] = refl
    keys_length (x ∷ es) = ap suc (keys_length es)

-- `keys()` takes no argument
pub no_keys_arguments : (h : Heap) (pairs : Value) (arguments : List Value) → (arguments ≡ [] → ⊥) → AppliesToMap h h pairs arguments (a.Raised E6) keys_row
no_keys_arguments h pairs [] d = absurd (d refl)
no_keys_arguments h pairs (v ∷ vs) d = record { answers = λ name store before n entries s o names row. refusal name h store before E6 s }
