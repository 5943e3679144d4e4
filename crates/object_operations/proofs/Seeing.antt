-- What the heap shows of the arrays and associative arrays of the store.
use Rattle.std.proofs.Common.{◌≡◌, ℕ, zero, suc, List, [], ◌∷◌, map, length, Option, Some, refl, sym, ap, ◌∙◌, subst, arith}
use Rattle.std.specs.Prelude.{slice_get, option_map}
use Rattle.heap_meaning.specs.Values.{Value, StoreValue, Reference, Entry}
use Rattle.heap_meaning.specs.Store.{ArrayObject, MapObject, MessageObject, Store}
use Rattle.heap_meaning.specs.Cells.{Content, Array, Pairs}
use Rattle.heap_meaning.specs.Stands.{Naming, Outside, meaning, entry_meaning, Stands}
use Rattle.heap_meaning.specs.Heap.{Heap, Belongs, content_at}
use Rattle.heap_meaning.specs.Reading.{item_in, length_in}
use Rattle.heap_meaning.proofs.Lists.{map_length}
use Rattle.heap_meaning.proofs.Showing.{Seen, sees_plain, sees_text, sees_array, sees_pairs, sees_message, sees, out_belongs}
use Rattle.object_operations.specs.Applies.{AreOut}

-- each value that is out is of this heap
pub first_belongs : (h : Heap) (name : Naming) (store : Store) (before : Outside) (v : Value) (rest : List Value) → Stands name h.cells store before → AreOut (v ∷ rest) before → Belongs h v
first_belongs h name store before v rest s o = out_belongs h name store before v s (λ k. let x = o k in omega arith)

pub second_belongs : (h : Heap) (name : Naming) (store : Store) (before : Outside) (v w : Value) (rest : List Value) → Stands name h.cells store before → AreOut (v ∷ w ∷ rest) before → Belongs h w
second_belongs h name store before v w rest s o = out_belongs h name store before w s (λ k. let x = o k in omega arith)

pub get_map : {A B : Type 0} (f : A → B) (vs : List A) (i : ℕ) → slice_get (map f vs) i ≡ option_map f (slice_get vs i)
get_map f [] i = refl
get_map f (v ∷ vs) zero = refl
get_map f (v ∷ vs) (suc i) = get_map f vs i

-- the cell of an array holds values that stand for its items
pub record ArrayHeld (h : Heap) (name : Naming) (v : Value) (items : List StoreValue) : Type 0 where
  pub held : List Value
  pub content : content_at h v ≡ Some (Array held)
  pub shows : items ≡ map (meaning name) held

pub array_held : (h : Heap) (name : Naming) (store : Store) (before : Outside) (v : Value) (n : ℕ) (items : List StoreValue) → Stands name h.cells store before → Belongs h v
    → meaning name v ≡ Reference n → slice_get store n ≡ Some (ArrayObject items) → ArrayHeld h name v items
array_held h name store before v n items s b names row = go v (meaning name v) (content_at h v) (sees h name store before v s b) refl names
  where
    go : (u : Value) (w : StoreValue) (o : Option Content) → Seen name store u w o → content_at h v ≡ o → w ≡ Reference n → ArrayHeld h name v items
    go _ _ _ sees_plain e f = absurd cc
    go _ _ _ sees_text e f = absurd cc
    go _ _ _ (sees_array {n = m} {vs = vs} g) e f =
        let same : m ≡ n = cc in
        let r : slice_get store n ≡ Some (ArrayObject (map (meaning name) vs)) = subst (λ i. slice_get store i ≡ Some (ArrayObject (map (meaning name) vs))) same g in
        record { held = vs; content = e; shows = cc }
    go _ _ _ (sees_pairs {n = m} {es = es} g) e f =
        let same : m ≡ n = cc in
        let r : slice_get store n ≡ Some (MapObject (map (entry_meaning name) es)) = subst (λ i. slice_get store i ≡ Some (MapObject (map (entry_meaning name) es))) same g in
        absurd cc
    go _ _ _ (sees_message {n = m} {m = x} g) e f =
        let same : m ≡ n = cc in
        let r : slice_get store n ≡ Some (MessageObject x) = subst (λ i. slice_get store i ≡ Some (MessageObject x)) same g in
        absurd cc

pub held_length : (h : Heap) (name : Naming) (v : Value) (items : List StoreValue) → ArrayHeld h name v items → length_in (content_at h v) ≡ length items
held_length h name v items a = ap length_in a.content ∙ sym (ap length a.shows ∙ map_length (meaning name) a.held)

pub held_item : (h : Heap) (name : Naming) (v : Value) (items : List StoreValue) (i : ℕ) → ArrayHeld h name v items → slice_get items i ≡ option_map (meaning name) (item_in (content_at h v) i)
held_item h name v items i a = ap (λ l. slice_get l i) a.shows ∙ get_map (meaning name) a.held i ∙ ap (λ o. option_map (meaning name) (item_in o i)) (sym a.content)

-- the cell of an associative array holds entries that stand for its own
pub record MapHeld (h : Heap) (name : Naming) (v : Value) (entries : List (Entry StoreValue)) : Type 0 where
  pub held : List (Entry Value)
  pub content : content_at h v ≡ Some (Pairs held)
  pub shows : entries ≡ map (entry_meaning name) held

pub map_held : (h : Heap) (name : Naming) (store : Store) (before : Outside) (v : Value) (n : ℕ) (entries : List (Entry StoreValue)) → Stands name h.cells store before → Belongs h v
    → meaning name v ≡ Reference n → slice_get store n ≡ Some (MapObject entries) → MapHeld h name v entries
map_held h name store before v n entries s b names row = go v (meaning name v) (content_at h v) (sees h name store before v s b) refl names
  where
    go : (u : Value) (w : StoreValue) (o : Option Content) → Seen name store u w o → content_at h v ≡ o → w ≡ Reference n → MapHeld h name v entries
    go _ _ _ sees_plain e f = absurd cc
    go _ _ _ sees_text e f = absurd cc
    go _ _ _ (sees_pairs {n = m} {es = es} g) e f =
        let same : m ≡ n = cc in
        let r : slice_get store n ≡ Some (MapObject (map (entry_meaning name) es)) = subst (λ i. slice_get store i ≡ Some (MapObject (map (entry_meaning name) es))) same g in
        record { held = es; content = e; shows = cc }
    go _ _ _ (sees_array {n = m} {vs = vs} g) e f =
        let same : m ≡ n = cc in
        let r : slice_get store n ≡ Some (ArrayObject (map (meaning name) vs)) = subst (λ i. slice_get store i ≡ Some (ArrayObject (map (meaning name) vs))) same g in
        absurd cc
    go _ _ _ (sees_message {n = m} {m = x} g) e f =
        let same : m ≡ n = cc in
        let r : slice_get store n ≡ Some (MessageObject x) = subst (λ i. slice_get store i ≡ Some (MessageObject x)) same g in
        absurd cc
