-- What a heap's values show of the store.
use Rattle.std.proofs.Common.{◌≡◌, ℕ, zero, suc, ◌+◌, ◌<◌, ◌≤◌, List, [], ◌∷◌, map, Option, Some, None, refl, sym, ap, ◌∙◌, subst, arith}
use Rattle.std.specs.Prelude.{slice_get, option_map, Bool, true, false, cond}
use Rattle.std.specs.Str.{bytes_eq}
use Rattle.chan_values.specs.declared.message.Message as m
use Rattle.heap_meaning.specs.declared.plain.Plain.{Plain}
use Rattle.heap_meaning.specs.Keys.{values_of, value_at_key}
use Rattle.heap_meaning.specs.Reading.{item_in, value_in}
use Rattle.heap_meaning.specs.Values.{Cell, Direct, Entry, Reference, Scalar, StoreValue, Value, Words}
use Rattle.heap_meaning.specs.Store.{ArrayObject, MapObject, MessageObject, Store}
use Rattle.heap_meaning.specs.Cells.{Content, Text, Array, Pairs, Message, HeldCell, occurrence, occurrences, inner, inner_of, cell_at, count_at}
use Rattle.heap_meaning.specs.Stands.{Naming, Outside, meaning, entry_meaning, CellFits, Stands}
use Rattle.heap_meaning.specs.Heap.{Heap, Belongs, content_at}
use Rattle.heap_meaning.proofs.Counts.{references_cell, occurrence_self}
use Rattle.heap_meaning.proofs.Laws.{cell_of}

-- a value that is out is of this heap
pub out_belongs : (h : Heap) (name : Naming) (store : Store) (outside : Outside) (v : Value) → Stands name h.cells store outside → ((k : ℕ) → occurrence k v ≤ outside k) → Belongs h v
out_belongs h name store outside (Direct p) s o = tt
out_belongs h name store outside (Cell k) s o = let c = s.corresponds.counted k in let l = o k in let e = occurrence_self k in omega arith

-- what is held by a cell of this heap is of this heap
pub inner_belongs : (h : Heap) (name : Naming) (store : Store) (outside : Outside) (v w : Value) (c : Content) → Stands name h.cells store outside → content_at h v ≡ Some c → ((k : ℕ) → w ≡ Cell k → 0 < occurrences k (inner c)) → Belongs h w
inner_belongs h name store outside v (Direct p) c s e o = tt
inner_belongs h name store outside (Direct p) (Cell k) c s e o = absurd cc
inner_belongs h name store outside (Cell j) (Cell k) c s e o = go (cell_at h.cells j) refl e
  where
    go : (x : Option HeldCell) → cell_at h.cells j ≡ x → option_map (λ d. d.content) x ≡ Some c → 0 < count_at h.cells k
    go None q e = absurd cc
    go (Some d) q e =
        let f : d.content ≡ c = cc in
        let p : occurrences k (inner_of (cell_at h.cells j)) ≡ occurrences k (inner c) = ap (λ x. occurrences k (inner_of x)) q ∙ ap (λ x. occurrences k (inner x)) f in
        let i = o k refl in
        let n = s.corresponds.counted k in let r = references_cell k j h.cells in omega arith

pub among_items : (k i : ℕ) (vs : List Value) → slice_get vs i ≡ Some (Cell k) → 0 < occurrences k vs
among_items k i [] e = absurd cc
among_items k zero (v ∷ vs) e = let f : v ≡ Cell k = cc in let g : occurrence k v ≡ 1 = ap (occurrence k) f ∙ occurrence_self k in omega arith
among_items k (suc i) (v ∷ vs) e = let r = among_items k i vs e in omega arith

pub among_values : (k : ℕ) (key : List ℕ) (es : List (Entry Value)) → value_at_key es key ≡ Some (Cell k) → 0 < occurrences k (values_of es)
among_values k key [] e = absurd cc
among_values k key (x ∷ es) e = go (among_values k key es) (bytes_eq x.key key) e
  where
    go : (value_at_key es key ≡ Some (Cell k) → 0 < occurrences k (values_of es)) → (b : Bool) → cond b (Some x.value) (value_at_key es key) ≡ Some (Cell k) → 0 < occurrence k x.value + occurrences k (values_of es)
    go more true e = let f : x.value ≡ Cell k = cc in let g : occurrence k x.value ≡ 1 = ap (occurrence k) f ∙ occurrence_self k in omega arith
    go more false e = let r = more e in omega arith

-- an item of an array of this heap is of this heap
pub item_belongs : (h : Heap) (name : Naming) (store : Store) (outside : Outside) (v : Value) (i : ℕ) (w : Value) → Stands name h.cells store outside → item_in (content_at h v) i ≡ Some w → Belongs h w
item_belongs h name store outside v i w s e = go (content_at h v) refl e
  where
    go : (o : Option Content) → content_at h v ≡ o → item_in o i ≡ Some w → Belongs h w
    go None q e = absurd cc
    go (Some (Text b)) q e = absurd cc
    go (Some (Pairs es)) q e = absurd cc
    go (Some (Message m)) q e = absurd cc
    go (Some (Array vs)) q e = inner_belongs h name store outside v w (Array vs) s q (λ k f. among_items k i vs (e ∙ ap Some f))

-- a value of an associative array of this heap is of this heap
pub value_belongs : (h : Heap) (name : Naming) (store : Store) (outside : Outside) (v : Value) (key : List ℕ) (w : Value) → Stands name h.cells store outside → value_in (content_at h v) key ≡ Some w → Belongs h w
value_belongs h name store outside v key w s e = go (content_at h v) refl e
  where
    go : (o : Option Content) → content_at h v ≡ o → value_in o key ≡ Some w → Belongs h w
    go None q e = absurd cc
    go (Some (Text b)) q e = absurd cc
    go (Some (Array vs)) q e = absurd cc
    go (Some (Message m)) q e = absurd cc
    go (Some (Pairs es)) q e = inner_belongs h name store outside v w (Pairs es) s q (λ k f. among_values k key es (e ∙ ap Some f))

-- how a value, what it stands for and its cell's content go together
pub data Seen (name : Naming) (store : Store) : Value → StoreValue → Option Content → Type 0 where
  sees_plain : {p : Plain} → Seen name store (Direct p) (Scalar p) None
  sees_text : {k : ℕ} {bytes : List ℕ} → Seen name store (Cell k) (Words bytes) (Some (Text bytes))
  sees_array : {k n : ℕ} {vs : List Value} → slice_get store n ≡ Some (ArrayObject (map (meaning name) vs)) → Seen name store (Cell k) (Reference n) (Some (Array vs))
  sees_pairs : {k n : ℕ} {es : List (Entry Value)} → slice_get store n ≡ Some (MapObject (map (entry_meaning name) es)) → Seen name store (Cell k) (Reference n) (Some (Pairs es))
  sees_message : {k n : ℕ} {m : m.Message} → slice_get store n ≡ Some (MessageObject m) → Seen name store (Cell k) (Reference n) (Some (Message m))

pub sees : (h : Heap) (name : Naming) (store : Store) (outside : Outside) (v : Value) → Stands name h.cells store outside → Belongs h v → Seen name store v (meaning name v) (content_at h v)
sees h name store outside (Direct p) s b = sees_plain
sees h name store outside (Cell k) s b =
    let c = cell_of h.cells k b in
    subst (λ o. Seen name store (Cell k) (name k) (option_map (λ x. x.content) o)) (sym c.1) (of c.0.content (s.corresponds.named k c.0 c.1 c.2))
  where
    of : (x : Content) → CellFits name store (name k) x → Seen name store (Cell k) (name k) (Some x)
    of (Text b) f = subst (λ w. Seen name store (Cell k) w (Some (Text b))) (sym f) sees_text
    of (Array vs) f = subst (λ w. Seen name store (Cell k) w (Some (Array vs))) (sym f.1) (sees_array f.2)
    of (Pairs es) f = subst (λ w. Seen name store (Cell k) w (Some (Pairs es))) (sym f.1) (sees_pairs f.2)
    of (Message m) f = subst (λ w. Seen name store (Cell k) w (Some (Message m))) (sym f.1) (sees_message f.2)
