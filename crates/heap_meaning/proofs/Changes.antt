-- An array, or an associative array, that changes.
use Rattle.std.proofs.Common.{◌≡◌, ℕ, ◌+◌, ◌<◌, List, [], ◌∷◌, map, length, Option, Some, None, refl, sym, ap, ◌∙◌, subst, arith}
use Rattle.std.specs.Prelude.{slice_get, slice_set, slice_index_or, option_map}
use Rattle.std.specs.List.{insert, remove}
use Rattle.std.proofs.lemmas.Option.{slice_get_within}
use Rattle.heap_meaning.specs.Values.{Value, Cell, StoreValue, Reference, Entry, filler, filler_meant}
use Rattle.heap_meaning.specs.Keys.{values_of, placed}
use Rattle.heap_meaning.specs.Heap.{Heap, Belongs, content_at, WritesArray, WritesMap, SetsItem, InsertsItem, TakesItem, no_references, references_of}
use Rattle.heap_meaning.specs.Reading.{item_in}
use Rattle.heap_meaning.specs.Framing.{Rewritten, ItemsChange, EntriesChange}
use Rattle.heap_meaning.proofs.Lists.{map_placed, map_insert, map_remove, occurrences_placed, occurrences_insert, occurrences_remove}
use Rattle.heap_meaning.specs.Store.{ArrayObject, MapObject, Store}
use Rattle.heap_meaning.specs.Cells.{Content, Array, Pairs, HeldCell, Cells, occurrence, occurrences, count_of, count_at, inner, cell_at, ChangesCell}
use Rattle.heap_meaning.specs.Stands.{Naming, Outside, meaning, entry_meaning, CellFits, Stands}
use Rattle.heap_meaning.proofs.Writes.{write_stands, get_set_same}

module _ (name : Naming) (cells cells' : Cells) (store : Store) (before after : Outside) (s : Stands name cells store before)
    (j : ℕ) (c : HeldCell) (there : cell_at cells j ≡ Some c) (live : 0 < c.count) (n : ℕ) (names : name j ≡ Reference n) where
  module _ (vs vs' : List Value) (held : c.content ≡ Array vs) (items : List StoreValue) (row : slice_get store n ≡ Some (ArrayObject items)) where
    -- the items of the object are what those of the cell stand for
    pub array_items : items ≡ map (meaning name) vs
    array_items =
        let f : CellFits name store (name j) (Array vs) = subst (CellFits name store (name j)) held (s.corresponds.named j c there live) in
        let same : f.0 ≡ n = let a = f.1 in cc in
        let g : slice_get store n ≡ Some (ArrayObject (map (meaning name) vs)) = subst (λ m. slice_get store m ≡ Some (ArrayObject (map (meaning name) vs))) same f.2 in cc

    pub array_stands : (items' : List StoreValue) → items' ≡ map (meaning name) vs' → ChangesCell cells cells' j (Some (record { count = c.count; content = Array vs' }))
        → ((k : ℕ) → occurrences k vs + before k ≡ occurrences k vs' + after k) → Stands name cells' (slice_set store n (ArrayObject items')) after
    array_stands items' e sets moved =
        write_stands name cells cells' store before after s j c there live (Array vs') sets (λ k. ap (λ x. occurrences k (inner x) + before k) held ∙ moved k)
        n names (ArrayObject items') (n, refl, get_set_same store n (ArrayObject items') (slice_get_within store n _ row) ∙ ap (λ l. Some (ArrayObject l)) e)

  module _ (es es' : List (Entry Value)) (held : c.content ≡ Pairs es) (entries : List (Entry StoreValue)) (row : slice_get store n ≡ Some (MapObject entries)) where
    pub map_entries : entries ≡ map (entry_meaning name) es
    map_entries =
        let f : CellFits name store (name j) (Pairs es) = subst (CellFits name store (name j)) held (s.corresponds.named j c there live) in
        let same : f.0 ≡ n = let a = f.1 in cc in
        let g : slice_get store n ≡ Some (MapObject (map (entry_meaning name) es)) = subst (λ m. slice_get store m ≡ Some (MapObject (map (entry_meaning name) es))) same f.2 in cc

    pub map_stands : (entries' : List (Entry StoreValue)) → entries' ≡ map (entry_meaning name) es' → ChangesCell cells cells' j (Some (record { count = c.count; content = Pairs es' }))
        → ((k : ℕ) → occurrences k (values_of es) + before k ≡ occurrences k (values_of es') + after k) → Stands name cells' (slice_set store n (MapObject entries')) after
    map_stands entries' e sets moved =
        write_stands name cells cells' store before after s j c there live (Pairs es') sets (λ k. ap (λ x. occurrences k (inner x) + before k) held ∙ moved k)
        n names (MapObject entries') (n, refl, get_set_same store n (MapObject entries') (slice_get_within store n _ row) ∙ ap (λ l. Some (MapObject l)) e)

-- what the cell of a rewritten value held
pub content_was : (old new : Heap) (v : Value) (Change : Content → Content → Type 0) (r : Rewritten old new v Change) → content_at old v ≡ Some r.cell.content
content_was old new v Change r = ap (content_at old) r.is ∙ ap (option_map (λ c. c.content)) r.was

belongs_count : (old : Heap) (v : Value) (k : ℕ) (c : HeldCell) → Belongs old v → v ≡ Cell k → cell_at old.cells k ≡ Some c → 0 < c.count
belongs_count old v k c b is was = let d : Belongs old (Cell k) = subst (Belongs old) is b in let e : count_at old.cells k ≡ c.count = ap count_of was in omega arith

-- an array whose items change
pub items_written : (old new : Heap) (v : Value) (change : List Value → List Value) (change' : Naming → List StoreValue → List StoreValue) (taken given : Outside) → Rewritten old new v (ItemsChange change)
    → ((name : Naming) (vs : List Value) → map (meaning name) (change vs) ≡ change' name (map (meaning name) vs))
    → ((vs : List Value) → content_at old v ≡ Some (Array vs) → (k : ℕ) → occurrences k vs + taken k ≡ occurrences k (change vs) + given k)
    → WritesArray old new v change' taken given
items_written old new v change change' taken given r same balance name store before after n items s b names row m =
    let vs = r.changes.items in
    let e = array_items name old.cells new.cells store before after s r.place r.cell r.was (belongs_count old v r.place r.cell b r.is r.was) n (sym (ap (meaning name) r.is) ∙ names) vs (change vs) r.changes.was items row in
    array_stands name old.cells new.cells store before after s r.place r.cell r.was (belongs_count old v r.place r.cell b r.is r.was) n (sym (ap (meaning name) r.is) ∙ names) vs (change vs) r.changes.was items row
    (change' name items) (ap (change' name) e ∙ sym (same name vs))
    (record { changed = r.holds ∙ ap (λ c. Some (record { count = r.cell.count; content = c })) r.changes.is; others = r.others })
    (λ k. let x = m k in let y = balance vs (content_was old new v _ r ∙ ap Some r.changes.was) k in omega arith)

-- an associative array whose entries change
pub entries_written : (old new : Heap) (v : Value) (change : List (Entry Value) → List (Entry Value)) (change' : Naming → List (Entry StoreValue) → List (Entry StoreValue)) (taken given : Outside) → Rewritten old new v (EntriesChange change)
    → ((name : Naming) (es : List (Entry Value)) → map (entry_meaning name) (change es) ≡ change' name (map (entry_meaning name) es))
    → ((es : List (Entry Value)) → content_at old v ≡ Some (Pairs es) → (k : ℕ) → occurrences k (values_of es) + taken k ≡ occurrences k (values_of (change es)) + given k)
    → WritesMap old new v change' taken given
entries_written old new v change change' taken given r same balance name store before after n entries s b names row m =
    let es = r.changes.entries in
    let e = map_entries name old.cells new.cells store before after s r.place r.cell r.was (belongs_count old v r.place r.cell b r.is r.was) n (sym (ap (meaning name) r.is) ∙ names) es (change es) r.changes.was entries row in
    map_stands name old.cells new.cells store before after s r.place r.cell r.was (belongs_count old v r.place r.cell b r.is r.was) n (sym (ap (meaning name) r.is) ∙ names) es (change es) r.changes.was entries row
    (change' name entries) (ap (change' name) e ∙ sym (same name es))
    (record { changed = r.holds ∙ ap (λ c. Some (record { count = r.cell.count; content = c })) r.changes.is; others = r.others })
    (λ k. let x = m k in let y = balance es (content_was old new v _ r ∙ ap Some r.changes.was) k in omega arith)

-- an item was put at a place, and what stood there is out
pub item_placed : (old new : Heap) (v : Value) (i : ℕ) (item was : Value) → Rewritten old new v (ItemsChange (λ items. placed filler items i item)) → ((vs : List Value) → content_at old v ≡ Some (Array vs) → was ≡ slice_index_or vs i filler)
    → WritesArray old new v (λ name items. placed filler_meant items i (meaning name item)) (references_of item) (references_of was)
item_placed old new v i item was r h =
    items_written old new v (λ items. placed filler items i item) (λ name items. placed filler_meant items i (meaning name item)) (references_of item) (references_of was) r (λ name vs. map_placed (meaning name) filler vs i item)
    (λ vs e k. let a = occurrences_placed k vs i item in let b : occurrence k was ≡ occurrence k (slice_index_or vs i filler) = ap (occurrence k) (h vs e) in omega arith)

pub item_inserted : (old new : Heap) (v : Value) (i : ℕ) (item : Value) → Rewritten old new v (ItemsChange (λ items. insert items i item)) → InsertsItem old new v i item
item_inserted old new v i item r =
    items_written old new v (λ items. insert items i item) (λ name items. insert items i (meaning name item)) (references_of item) no_references r (λ name vs. map_insert (meaning name) vs i item)
    (λ vs e k. let a = occurrences_insert k vs i item in omega arith)

pub item_taken : (old new : Heap) (v : Value) (i : ℕ) (item : Value) → Rewritten old new v (ItemsChange (λ items. remove items i)) → Some item ≡ item_in (content_at old v) i → TakesItem old new v i item
item_taken old new v i item r h =
    items_written old new v (λ items. remove items i) (λ name items. remove items i) no_references (references_of item) r (λ name vs. map_remove (meaning name) vs i)
    (λ vs e k. let a = occurrences_remove k vs i item (sym (ap (λ c. item_in c i) e) ∙ sym h) in omega arith)
