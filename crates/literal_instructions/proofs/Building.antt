-- How a new object gets values one by one.
use Rattle.std.proofs.Common.{◌≡◌, ℕ, ◌+◌, ◌<◌, List, [], ◌∷◌, ◌++◌, length, take, map, get_or, refl, sym, ap, ◌∙◌, subst, arith, append_assoc}
use Rattle.std.specs.Prelude.{slice_set}
use Rattle.std.specs.List.{insert}
use Rattle.std.proofs.lemmas.List.{take_more, length-take-le}
use Rattle.std.proofs.lemmas.List.Edits.{insert_end}
use Rattle.std.proofs.lemmas.Option.{slice_get_within}
use Rattle.chan_values.specs.Folded.{folded}
use Rattle.heap_meaning.specs.Values.{Value, StoreValue, Entry}
use Rattle.heap_meaning.specs.Keys.{with_key}
use Rattle.heap_meaning.specs.Store.{ArrayObject, MapObject, Store}
use Rattle.heap_meaning.specs.Cells.{occurrence}
use Rattle.heap_meaning.specs.Stands.{Naming, Outside, meaning, Stands, Agrees}
use Rattle.heap_meaning.specs.Heap.{Heap, Belongs, Moves, MakesObject, InsertsItem, SetsKey, no_references, references_of, content_at}
use Rattle.heap_meaning.specs.Reading.{length_in, HoldsPairs}
use Rattle.heap_meaning.proofs.Counts.{occurrences_append}
use Rattle.heap_meaning.proofs.Lists.{map_append, map_length}
use Rattle.heap_meaning.proofs.Writes.{get_set_same}
use Rattle.object_operations.specs.Applies.{AreOut, Applies}
use Rattle.object_operations.specs.declared.applied.Applied.TheVariants as a
use Rattle.object_operations.proofs.Lists.{set_same, set_set, append_none}
use Rattle.object_operations.proofs.Seeing.{first_belongs, second_belongs, array_held, held_length}
use Rattle.object_makers.proofs.KeyListLaws.{meaning_agrees, get_end, set_end}
use Rattle.object_makers.proofs.JoinLaws.{pairs_hold}
use Rattle.brs_grammar.specs.Form.{Text}
use Rattle.brs_meaning.specs.Heads.{entries}
use Rattle.literal_instructions.specs.Literals.{array_row, pairs_row, Extends, Enters}

-- values that are out stand for the same under both names
all_agree : (name name' : Naming) (before : Outside) (vs : List Value) → Agrees name name' before → AreOut vs before → map (meaning name') vs ≡ map (meaning name) vs
all_agree name name' before [] g o = refl
all_agree name name' before (v ∷ vs) g o =
    ap (λ w. w ∷ map (meaning name') vs) (meaning_agrees name name' before v g (λ k. let x = o k in omega arith)) ∙ ap (λ ws. meaning name v ∷ ws) (all_agree name name' before vs g (λ k. let x = o k in omega arith))

-- ---- an array

pub extends_none : (h : Heap) (array : Value) → Extends h h array []
extends_none h array = record {
  stands = λ name store before n items s o names row.
      subst (λ x. Stands name h.cells x before) (sym (ap (λ l. slice_set store n (ArrayObject l)) (append_none items) ∙ set_same store n (ArrayObject items) row)) s;
}

pub extends_one : (h h1 h2 : Heap) (array item shared : Value) (end : ℕ) → end ≡ length_in (content_at h array) → shared ≡ item → (Belongs h item → Moves h h1 no_references (references_of shared)) → InsertsItem h1 h2 array end shared
    → Extends h h2 array (item ∷ [])
extends_one h h1 h2 array item shared end at same moves puts = record {
  stands = λ name store before n items s o names row.
      let mid : Outside = λ k. occurrence k shared + before k in
      let b = first_belongs h name store before array (item ∷ []) s o in
      let t = moves (second_belongs h name store before array item [] s o) name store before mid s (λ k. omega arith) in
      let b1 = first_belongs h1 name store mid array [] t (λ k. let x = o k in omega arith) in
      let u = puts name store mid before n items t b1 names row (λ k. omega arith) in
      let g : insert items end (meaning name shared) ≡ items ++ meaning name item ∷ [] =
      ap (λ j. insert items j (meaning name shared)) (at ∙ held_length h name array items (array_held h name store before array n items s b names row))
      ∙ insert_end items (meaning name shared)
      ∙ ap (λ v. items ++ meaning name v ∷ []) same in
      subst (λ x. Stands name h2.cells (slice_set store n (ArrayObject x)) before) g u;
}

pub extends_both : (h h1 h2 : Heap) (array : Value) (xs ys : List Value) → Extends h h1 array xs → Extends h1 h2 array ys → Extends h h2 array (xs ++ ys)
extends_both h h1 h2 array xs ys x y = record {
  stands = λ name store before n items s o names row.
      let m : Value → StoreValue = meaning name in
      let longer : List StoreValue = items ++ map m xs in
      let t = x.stands name store before n items s (λ k. let z = o k in let c = occurrences_append k xs ys in omega arith) names row in
      let there = get_set_same store n (ArrayObject longer) (slice_get_within store n (ArrayObject items) row) in
      let u = y.stands name (slice_set store n (ArrayObject longer)) before n longer t (λ k. let z = o k in let c = occurrences_append k xs ys in omega arith) names there in
      let e : longer ++ map m ys ≡ items ++ map m (xs ++ ys) = append_assoc items (map m xs) (map m ys) ∙ ap (λ l. items ++ l) (sym (map_append m xs ys)) in
      subst (λ z. Stands name h2.cells z before) (set_set store n (ArrayObject longer) (ArrayObject (longer ++ map m ys)) ∙ ap (λ l. slice_set store n (ArrayObject l)) e) u;
}

pub extends_next : (h h1 h2 : Heap) (array : Value) (all : List Value) (i : ℕ) (item : Value) → i < length all → item ≡ get_or all i item → Extends h h1 array (take i all) → Extends h1 h2 array (item ∷ []) → Extends h h2 array (take (i + 1) all)
extends_next h h1 h2 array all i item here is x y =
    subst (λ l. Extends h h2 array l) (sym (take_more all i item here ∙ ap (λ v. take i all ++ v ∷ []) (sym is))) (extends_both h h1 h2 array (take i all) (item ∷ []) x y)

-- a new array has them all
pub array_made : (h h1 h2 : Heap) (array : Value) (items : List Value) → MakesObject h h1 array (ArrayObject []) → Extends h1 h2 array items → Applies h h2 items (a.Value array) array_row
array_made h h1 h2 array items made extends = record {
  answers = λ name store before s o.
      let mid : Outside = λ k. occurrence k array + before k in
      let r = made name store before mid s (λ k. refl) in
      let longer : Store = store ++ ArrayObject [] ∷ [] in
      let t = extends.stands r.naming longer mid (length store) [] r.stands (λ k. let z = o k in omega arith) r.shows (get_end store (ArrayObject [])) in
      let same : map (meaning r.naming) items ≡ map (meaning name) items = all_agree name r.naming before items r.agrees o in
      let g : slice_set longer (length store) (ArrayObject (map (meaning r.naming) items)) ≡ store ++ ArrayObject (map (meaning name) items) ∷ [] =
      set_end store (ArrayObject []) (ArrayObject (map (meaning r.naming) items)) ∙ ap (λ l. store ++ ArrayObject l ∷ []) same in
      record { naming = r.naming; agrees = r.agrees; shows = r.shows; stands = subst (λ x. Stands r.naming h2.cells x mid) g t };
}

-- ---- an associative array

entries_both : (ks ls : List Text) (vs ws : List StoreValue) (so_far : List (Entry StoreValue)) → length ks ≡ length vs → entries (ks ++ ls) (vs ++ ws) so_far ≡ entries ls ws (entries ks vs so_far)
entries_both [] ls [] ws so_far e = refl
entries_both [] ls (v ∷ vs) ws so_far e = absurd (omega arith)
entries_both (k ∷ ks) ls [] ws so_far e = absurd (omega arith)
entries_both (k ∷ ks) ls (v ∷ vs) ws so_far e = entries_both ks ls vs ws (with_key so_far k v) (omega arith)

pub enters_none : (h : Heap) (pairs : Value) → Enters h h pairs [] []
enters_none h pairs = record {
  stands = λ name store before n so_far s o names row. subst (λ x. Stands name h.cells x before) (sym (set_same store n (MapObject so_far) row)) s;
}

-- where it is no associative array, no store has one for it
pub enters_no_map : (h h1 : Heap) (pairs : Value) (keys : List Text) (values : List Value) → (HoldsPairs (content_at h pairs) → ⊥) → Enters h h1 pairs keys values
enters_no_map h h1 pairs keys values d = record {
  stands = λ name store before n so_far s o names row. absurd (d (pairs_hold h name store before pairs n so_far s (first_belongs h name store before pairs values s o) names row));
}

pub enters_one : (h h1 h2 : Heap) (pairs item shared : Value) (key bytes : Text) → bytes ≡ key → shared ≡ item → (Belongs h item → Moves h h1 no_references (references_of shared)) → SetsKey h1 h2 pairs bytes shared
    → Enters h h2 pairs (key ∷ []) (item ∷ [])
enters_one h h1 h2 pairs item shared key bytes is same moves sets = record {
  stands = λ name store before n so_far s o names row.
      let mid : Outside = λ k. occurrence k shared + before k in
      let t = moves (second_belongs h name store before pairs item [] s o) name store before mid s (λ k. omega arith) in
      let b1 = first_belongs h1 name store mid pairs [] t (λ k. let x = o k in omega arith) in
      let u = sets name store mid before n so_far t b1 names row (λ k. omega arith) in
      let g : with_key so_far (folded bytes) (meaning name shared) ≡ with_key so_far (folded key) (meaning name item) =
      ap (λ b. with_key so_far (folded b) (meaning name shared)) is ∙ ap (λ v. with_key so_far (folded key) (meaning name v)) same in
      subst (λ x. Stands name h2.cells (slice_set store n (MapObject x)) before) g u;
}

pub enters_both : (h h1 h2 : Heap) (pairs : Value) (ks ls : List Text) (vs ws : List Value) → length ks ≡ length vs → Enters h h1 pairs ks vs → Enters h1 h2 pairs ls ws → Enters h h2 pairs (ks ++ ls) (vs ++ ws)
enters_both h h1 h2 pairs ks ls vs ws each x y = record {
  stands = λ name store before n so_far s o names row.
      let m : Value → StoreValue = meaning name in
      let more : List (Entry StoreValue) = entries (map folded ks) (map m vs) so_far in
      let t = x.stands name store before n so_far s (λ k. let z = o k in let c = occurrences_append k vs ws in omega arith) names row in
      let there = get_set_same store n (MapObject more) (slice_get_within store n (MapObject so_far) row) in
      let u = y.stands name (slice_set store n (MapObject more)) before n more t (λ k. let z = o k in let c = occurrences_append k vs ws in omega arith) names there in
      let each' : length (map folded ks) ≡ length (map m vs) = map_length folded ks ∙ each ∙ sym (map_length m vs) in
      let e : entries (map folded ls) (map m ws) more ≡ entries (map folded (ks ++ ls)) (map m (vs ++ ws)) so_far =
      sym (ap (λ l. entries l (map m (vs ++ ws)) so_far) (map_append folded ks ls) ∙ ap (λ l. entries (map folded ks ++ map folded ls) l so_far) (map_append m vs ws) ∙ entries_both (map folded ks) (map folded ls) (map m vs) (map m ws) so_far each') in
      subst (λ z. Stands name h2.cells z before) (set_set store n (MapObject more) (MapObject (entries (map folded ls) (map m ws) more)) ∙ ap (λ l. slice_set store n (MapObject l)) e) u;
}

pub enters_next : (h h1 h2 : Heap) (pairs : Value) (keys : List Text) (all : List Value) (i : ℕ) (key : Text) (item : Value) → length keys ≡ length all → i < length all → key ≡ get_or keys i key → item ≡ get_or all i item
    → Enters h h1 pairs (take i keys) (take i all) → Enters h1 h2 pairs (key ∷ []) (item ∷ []) → Enters h h2 pairs (take (i + 1) keys) (take (i + 1) all)
enters_next h h1 h2 pairs keys all i key item each here key_is is x y =
    let k : take (i + 1) keys ≡ take i keys ++ key ∷ [] = take_more keys i key (omega arith) ∙ ap (λ v. take i keys ++ v ∷ []) (sym key_is) in
    let l : take (i + 1) all ≡ take i all ++ item ∷ [] = take_more all i item here ∙ ap (λ v. take i all ++ v ∷ []) (sym is) in
    let e : length (take i keys) ≡ length (take i all) = length-take-le i keys (omega arith) ∙ sym (length-take-le i all (omega arith)) in
    subst (λ ks. Enters h h2 pairs ks (take (i + 1) all)) (sym k) (subst (λ vs. Enters h h2 pairs (take i keys ++ key ∷ []) vs) (sym l) (enters_both h h1 h2 pairs (take i keys) (key ∷ []) (take i all) (item ∷ []) e x y))

-- a new associative array has them all
pub pairs_made : (h h1 h2 : Heap) (pairs : Value) (keys : List Text) (items : List Value) → MakesObject h h1 pairs (MapObject []) → Enters h1 h2 pairs keys items → Applies h h2 items (a.Value pairs) (pairs_row (map folded keys))
pairs_made h h1 h2 pairs keys items made enters = record {
  answers = λ name store before s o.
      let mid : Outside = λ k. occurrence k pairs + before k in
      let r = made name store before mid s (λ k. refl) in
      let longer : Store = store ++ MapObject [] ∷ [] in
      let t = enters.stands r.naming longer mid (length store) [] r.stands (λ k. let z = o k in omega arith) r.shows (get_end store (MapObject [])) in
      let same : map (meaning r.naming) items ≡ map (meaning name) items = all_agree name r.naming before items r.agrees o in
      let g : slice_set longer (length store) (MapObject (entries (map folded keys) (map (meaning r.naming) items) [])) ≡ store ++ MapObject (entries (map folded keys) (map (meaning name) items) []) ∷ [] =
      set_end store (MapObject []) (MapObject (entries (map folded keys) (map (meaning r.naming) items) [])) ∙ ap (λ l. store ++ MapObject (entries (map folded keys) l []) ∷ []) same in
      record { naming = r.naming; agrees = r.agrees; shows = r.shows; stands = subst (λ x. Stands r.naming h2.cells x mid) g t };
}
