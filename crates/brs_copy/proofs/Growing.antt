-- A new array or associative array to which items are put, one after another.
use Rattle.std.proofs.Common.{◌≡◌, ◌≢◌, ℕ, zero, suc, ◌+◌, ◌-◌, List, [], ◌∷◌, ◌++◌, length, length-append, append-nil, Some, None, refl, sym, ap, ◌∙◌, subst, arith}
use Rattle.std.specs.Prelude.{slice_get, slice_set, option_map, replicate}
use Rattle.std.specs.List.{insert}
use Rattle.std.proofs.lemmas.Option.{slice_get_within}
use Rattle.std.proofs.lemmas.List.{length-map}
use Rattle.chan_values.specs.Folded.{folded}
use Rattle.chan_values.specs.Portable.{IsKeyList}
use Rattle.chan_values.specs.Tree.{Kind, Array, Keyed}
use Rattle.heap_meaning.specs.Values.{Value, Cell, StoreValue, Reference, Entry, filler, filler_meant}
use Rattle.heap_meaning.specs.Keys.{keys_of, placed, with_key, value_at_key, IsGap}
use Rattle.heap_meaning.specs.Store.{ArrayObject, MapObject, Store}
use Rattle.heap_meaning.specs.Cells as c
use Rattle.heap_meaning.specs.Cells.{HeldCell, cell_at, occurrence}
use Rattle.heap_meaning.specs.Stands.{Naming, Outside, Stands, meaning}
use Rattle.heap_meaning.specs.Reading.{length_in, value_in}
use Rattle.heap_meaning.specs.Heap.{Heap, Belongs, SetsItem, SetsKey, content_at}
use Rattle.heap_meaning.specs.Framing.{Grows, GrowsByKey}
use Rattle.heap_meaning.proofs.Lists.{placed_past}
use Rattle.heap_meaning.proofs.Searching.{sorted_before, with_key_new, value_in_gap}
use Rattle.copy_meaning.specs.Laying.{entries_with, object_of}
use Rattle.copy_meaning.proofs.Round.{keys_are}

-- a cell's content is of this kind and holds so many items
abbrev pub Filled : Kind → c.Content → ℕ → Type 0
Filled Array (c.Array vs) n = length vs ≡ n
Filled (Keyed ks) (c.Pairs es) n = (keys_of es ≡ ks) × (length es ≡ n)
Filled k x n = ⊥

-- the cell after an item was put in, and the others as they were
pub record Put (old new : Heap) (place : ℕ) (cell : HeldCell) (k : Kind) (n : ℕ) : Type 0 where
  pub now : HeldCell
  pub holds : cell_at new.cells place ≡ Some now
  pub same : now.count ≡ cell.count
  pub content : Filled k now.content n
  pub others : (i : ℕ) → i ≢ place → cell_at new.cells i ≡ cell_at old.cells i

-- an item was put at the end
pub record Puts (old new : Heap) (v : Value) (k k' : Kind) (n : ℕ) (w : Value) : Type 0 where
  pub frame : (place : ℕ) (cell : HeldCell) → v ≡ Cell place → cell_at old.cells place ≡ Some cell → Filled k cell.content n → Put old new place cell k' (n + 1)
  pub stands : (name : Naming) (store : Store) (before after : Outside) (number : ℕ) (vs : List StoreValue) → Stands name old.cells store before → Belongs old v → meaning name v ≡ Reference number → slice_get store number ≡ Some (object_of k vs) → length vs ≡ n → ((i : ℕ) → before i ≡ after i + occurrence i w) → Stands name new.cells (slice_set store number (object_of k' (vs ++ meaning name w ∷ []))) after

placed_end : {A : Type 0} (gap : A) (items : List A) (i : ℕ) (w : A) → length items ≡ i → placed gap items i w ≡ items ++ w ∷ []
placed_end gap items i w h =
    placed_past gap items i w (omega arith) ∙ ap (λ n. items ++ replicate n gap ++ w ∷ []) (let q : i - length items ≡ 0 = omega arith in q) ∙ ap (λ r. r ++ w ∷ []) (append-nil items)

insert_end : {A : Type 0} (xs : List A) (x : A) → insert xs (length xs) x ≡ xs ++ x ∷ []
insert_end [] x = refl
insert_end (y ∷ xs) x = ap (λ r. y ∷ r) (insert_end xs x)

get_front : {A : Type 0} (xs : List A) (x y : A) (i : ℕ) → slice_get xs i ≡ Some y → slice_get (xs ++ x ∷ []) i ≡ Some y
get_front [] x y i e = absurd cc
get_front (z ∷ xs) x y zero e = e
get_front (z ∷ xs) x y (suc i) e = get_front xs x y i e

get_end : {A : Type 0} (xs : List A) (x : A) → slice_get (xs ++ x ∷ []) (length xs) ≡ Some x
get_end [] x = refl
get_end (z ∷ xs) x = get_end xs x

-- a key that may follow stands behind all others
gap_at_end : (ks : List (List ℕ)) (key : List ℕ) → IsKeyList (ks ++ key ∷ []) → IsGap ks key (length ks)
gap_at_end ks key l = record {
  within = omega arith;
  before = λ j k h e. sorted_before (ks ++ key ∷ []) (length ks) j key k l.ascending h (get_front ks key k j e) (get_end ks key);
  after = λ j k h e. let w = slice_get_within ks j k e in absurd (omega arith);
}

with_key_end : {A : Type 0} (es : List (Entry A)) (ks : List (List ℕ)) (key : List ℕ) (w : A) → keys_of es ≡ ks → IsKeyList (ks ++ key ∷ []) → with_key es key w ≡ es ++ record { key = key; value = w } ∷ []
with_key_end es ks key w e l =
    let n : length ks ≡ length es = ap length (sym e) ∙ length-map es (λ x. x.key) in
    let gap : IsGap (keys_of es) key (length es) = subst (λ i. IsGap (keys_of es) key i) n (subst (λ r. IsGap r key (length ks)) (sym e) (gap_at_end ks key l)) in
    with_key_new es key (length es) w gap ∙ insert_end es (record { key = key; value = w })

no_value_yet : {A : Type 0} (es : List (Entry A)) (ks : List (List ℕ)) (key : List ℕ) → keys_of es ≡ ks → IsKeyList (ks ++ key ∷ []) → value_at_key es key ≡ None
no_value_yet es ks key e l = value_in_gap es key (length ks) (subst (λ r. IsGap r key (length ks)) (sym e) (gap_at_end ks key l))

entries_more : (ks : List (List ℕ)) (vs : List StoreValue) (key : List ℕ) (w : StoreValue) → length ks ≡ length vs → entries_with (ks ++ key ∷ []) (vs ++ w ∷ []) ≡ entries_with ks vs ++ record { key = key; value = w } ∷ []
entries_more [] [] key w e = refl
entries_more [] (v ∷ vs) key w e = absurd (omega arith)
entries_more (k ∷ ks) [] key w e = absurd (omega arith)
entries_more (k ∷ ks) (v ∷ vs) key w e = ap (λ r. record { key = k; value = v } ∷ r) (entries_more ks vs key w (omega arith))

keys_more : {A : Type 0} (es : List (Entry A)) (key : List ℕ) (w : A) → keys_of (es ++ record { key = key; value = w } ∷ []) ≡ keys_of es ++ key ∷ []
keys_more [] key w = refl
keys_more (x ∷ es) key w = ap (λ r. x.key ∷ r) (keys_more es key w)

-- a write past the end of an array
pub item_puts : (old new : Heap) (v : Value) (n : ℕ) (w : Value) → SetsItem old new v n w → Grows old new v n w → Puts old new v Array Array n w
item_puts old new v n w sets grows = record {
  frame = λ place cell is there f. framed place cell is there cell.content refl f;
  stands = λ name store before after number vs s b shows get long out.
      subst (λ o. Stands name new.cells (slice_set store number (ArrayObject o)) after) (placed_end filler_meant vs n (meaning name w) long) (sets name store before after number vs s b shows get (λ i. let q = out i in omega arith));
}
  where
    framed : (place : ℕ) (cell : HeldCell) → v ≡ Cell place → cell_at old.cells place ≡ Some cell → (x : c.Content) → cell.content ≡ x → Filled Array x n → Put old new place cell Array (n + 1)
    framed place cell is there (c.Text b) e f = absurd f
    framed place cell is there (c.Message m) e f = absurd f
    framed place cell is there (c.Pairs es) e f = absurd f
    framed place cell is there (c.Array vs) e f =
        let has : content_at old v ≡ Some (c.Array vs) = ap (content_at old) is ∙ ap (option_map (λ d. d.content)) there ∙ ap Some e in
        let g = grows (let q : length_in (content_at old v) ≡ length vs = ap length_in has in omega arith) in
        let p : g.place ≡ place = let r : Cell g.place ≡ Cell place = sym g.is ∙ is in cc in
        let z : Some g.cell ≡ Some cell = sym g.was ∙ ap (cell_at old.cells) p ∙ there in
        let y : g.cell ≡ cell = cc in
        let u : c.Array g.changes.items ≡ c.Array vs = sym g.changes.was ∙ ap (λ d. d.content) y ∙ e in
        let items : g.changes.items ≡ vs = cc in
        record {
          now = record { count = g.cell.count; content = g.content };
          holds = ap (cell_at new.cells) (sym p) ∙ g.holds;
          same = ap (λ d. d.count) y;
          content = subst (λ x. Filled Array x (n + 1)) (sym g.changes.is) (ap length (ap (λ l. placed filler l n w) items ∙ placed_end filler vs n w f) ∙ length-append vs (w ∷ []) ∙ ap (λ m. m + 1) f);
          others = λ i d. g.others i (λ q. d (q ∙ p));
        }

-- a new key, which stands behind all others
pub value_puts : (old new : Heap) (v : Value) (ks : List (List ℕ)) (key : List ℕ) (n : ℕ) (w : Value) → folded key ≡ key → IsKeyList (ks ++ key ∷ []) → length ks ≡ n → SetsKey old new v key w → GrowsByKey old new v (folded key) w → Puts old new v (Keyed ks) (Keyed (ks ++ key ∷ [])) n w
value_puts old new v ks key n w same_key l long sets grows = record {
  frame = λ place cell is there f. framed place cell is there cell.content refl f;
  stands = λ name store before after number vs s b shows get len out.
      let m : length ks ≡ length vs = omega arith in
      let e : with_key (entries_with ks vs) (folded key) (meaning name w) ≡ entries_with (ks ++ key ∷ []) (vs ++ meaning name w ∷ []) =
      ap (λ k. with_key (entries_with ks vs) k (meaning name w)) same_key ∙ with_key_end (entries_with ks vs) ks key (meaning name w) (keys_are ks vs m) l ∙ sym (entries_more ks vs key (meaning name w) m) in
      subst (λ o. Stands name new.cells (slice_set store number (MapObject o)) after) e (sets name store before after number (entries_with ks vs) s b shows get (λ i. let q = out i in omega arith));
}
  where
    framed : (place : ℕ) (cell : HeldCell) → v ≡ Cell place → cell_at old.cells place ≡ Some cell → (x : c.Content) → cell.content ≡ x → Filled (Keyed ks) x n → Put old new place cell (Keyed (ks ++ key ∷ [])) (n + 1)
    framed place cell is there (c.Text b) e f = absurd f
    framed place cell is there (c.Message m) e f = absurd f
    framed place cell is there (c.Array vs) e f = absurd f
    framed place cell is there (c.Pairs es) e f =
        let has : content_at old v ≡ Some (c.Pairs es) = ap (content_at old) is ∙ ap (option_map (λ d. d.content)) there ∙ ap Some e in
        let g = grows (ap (λ o. value_in o (folded key)) has ∙ ap (value_at_key es) same_key ∙ no_value_yet es ks key f.0 l) in
        let p : g.place ≡ place = let r : Cell g.place ≡ Cell place = sym g.is ∙ is in cc in
        let z : Some g.cell ≡ Some cell = sym g.was ∙ ap (cell_at old.cells) p ∙ there in
        let y : g.cell ≡ cell = cc in
        let u : c.Pairs g.changes.entries ≡ c.Pairs es = sym g.changes.was ∙ ap (λ d. d.content) y ∙ e in
        let entries : g.changes.entries ≡ es = cc in
        let is_now : g.content ≡ c.Pairs (es ++ record { key = key; value = w } ∷ []) = g.changes.is ∙ ap (λ r. c.Pairs (with_key r (folded key) w)) entries ∙ ap (λ k. c.Pairs (with_key es k w)) same_key ∙ ap c.Pairs (with_key_end es ks key w f.0 l) in
        record {
          now = record { count = g.cell.count; content = g.content };
          holds = ap (cell_at new.cells) (sym p) ∙ g.holds;
          same = ap (λ d. d.count) y;
          content = subst (λ x. Filled (Keyed (ks ++ key ∷ [])) x (n + 1)) (sym is_now) (keys_more es key w ∙ ap (λ r. r ++ key ∷ []) f.0, length-append es (record { key = key; value = w } ∷ []) ∙ ap (λ m. m + 1) f.1);
          others = λ i d. g.others i (λ q. d (q ∙ p));
        }
