-- Live cells are exactly the kept objects, and the order of taking away does not matter.
use Rattle.std.proofs.Common.{◌≡◌, ℕ, zero, suc, ◌<◌, List, [], ◌∷◌, length, map, Option, Some, None, refl, sym, ap, ◌∙◌, subst, arith, ◌⊎◌, inl, inr}
use Rattle.std.proofs.lemmas.Option.{slice_get_within}
use Rattle.std.proofs.lemmas.Grind.{common_steps}
use Rattle.heap_meaning.specs.Values.{Cell, Direct, Reference, StoreValue, Value}
use Rattle.heap_meaning.specs.Store.{ArrayObject, MapObject, Store, mention, mentions, Refers, Reclaimed, reclaimed}
use Rattle.heap_meaning.specs.Cells.{Content, Text, Array, Pairs, Message, HeldCell, Cells, occurrence, occurrences, inner, inner_of, count_of, cell_at, count_at, item_references, Alive}
use Rattle.heap_meaning.specs.Stands.{Naming, Outside, meaning, entry_meaning, CellFits, Rooted, Stands}
use Rattle.heap_meaning.specs.Kept.{Among, Taken, IsAll, Distinct, KeptNumber, object_count, live_cells}
use Rattle.heap_meaning.proofs.Counts.{same_or}
use Rattle.heap_meaning.proofs.Laws.{zero_or, cell_of, pair_members}

among_or : (n : ℕ) (ms : List ℕ) → Among n ms ⊎ (Among n ms → ⊥)
among_or n [] = inr (λ h. h)
among_or n (m ∷ ms) = elim (same_or n m) [ inl e ↦ inl (inl e) | inr d ↦ elim (among_or n ms) [ inl a ↦ inl (inr a) | inr b ↦ inr (λ h. elim h [ inl e ↦ d e | inr a ↦ b a ]) ] ]

module _ (store : Store) (root : ℕ → Type 0) where
  -- what was taken away is reclaimed
  pub taken_gone : (taken : List ℕ) → Taken store root taken → (n : ℕ) → Among n taken → Reclaimed store root n
  taken_gone [] t n a = absurd a
  taken_gone (m ∷ before) t n a =
      let older = taken_gone before t.2 in
      let it : Reclaimed store root m = reclaimed t.0 (λ i r. older i (t.1 i r)) in
      elim a [ inl e ↦ subst (Reclaimed store root) (sym e) it | inr b ↦ older n b ]

  -- and where no more can be taken away, what is reclaimed was taken, whatever the order
  pub gone_taken : (taken : List ℕ) → IsAll store root taken → (n : ℕ) → n < length store → Reclaimed store root n → Among n taken
  gone_taken taken all n l (reclaimed unrooted back) =
      let older = λ (m : ℕ) (r : Refers store m n). gone_taken taken all m (slice_get_within store m r.object r.there) (back m r) in
      elim (among_or n taken) [ inl a ↦ a | inr b ↦ absurd (all n l b unrooted older) ]

references_some : (k : ℕ) (cells : Cells) → 0 < item_references k cells → (i : ℕ) × (0 < occurrences k (inner_of (cell_at cells i)))
references_some k [] h = absurd (omega arith)
references_some k (c ∷ cells) h = elim (zero_or (occurrences k (inner_of c))) [ inl z ↦ let r = references_some k cells (omega arith) in (suc r.0, r.1) | inr p ↦ (zero, p) ]

mention_self : (n : ℕ) → mention n (Reference n) ≡ 1
mention_self n = grind (arith, common_steps)

-- a cell named among values is an object named among their views
pub view_mentions : (name : Naming) (n k : ℕ) (vs : List Value) → 0 < occurrences k vs → name k ≡ Reference n → 0 < mentions n (map (meaning name) vs)
view_mentions name n k [] h e = absurd (omega arith)
view_mentions name n k (Direct p ∷ vs) h e = let r = view_mentions name n k vs (omega arith) e in omega arith
view_mentions name n k (Cell j ∷ vs) h e =
    let more = view_mentions name n k vs in
    elim (same_or k j) [ inl q ↦ here q | inr d ↦ let z : occurrence k (Cell j) ≡ 0 = grind (arith, common_steps) in let r = more (omega arith) e in omega arith ]
  where
    here : k ≡ j → 0 < mentions n (map (meaning name) (Cell j ∷ vs))
    here q = let f : name j ≡ Reference n = ap name (sym q) ∙ e in let g : mention n (name j) ≡ 1 = ap (mention n) f ∙ mention_self n in omega arith

-- the object of a cell that holds a reference
holder : (name : Naming) (store : Store) (w : StoreValue) (c : Content) (k n : ℕ) → CellFits name store w c → 0 < occurrences k (inner c) → name k ≡ Reference n → (m : ℕ) × (w ≡ Reference m) × Refers store m n
holder name store w (Text t) k n f h e = absurd (omega arith)
holder name store w (Message m) k n f h e = absurd (omega arith)
holder name store w (Array vs) k n f h e = (f.0, f.1, record { object = ArrayObject (map (meaning name) vs); there = f.2; named = view_mentions name n k vs h e })
holder name store w (Pairs es) k n f h e =
    (f.0, f.1, record { object = MapObject (map (entry_meaning name) es); there = f.2; named = let p = view_mentions name n k (map (λ x. x.value) es) h e in let q = ap (mentions n) (pair_members name es) in omega arith })

module _ (name : Naming) (cells : Cells) (store : Store) (outside : Outside) (s : Stands name cells store outside) (alive : Alive cells) where
  -- the object of a live cell is kept
  pub live_kept : (n : ℕ) → Reclaimed store (Rooted name outside) n → (k : ℕ) → 0 < count_at cells k → name k ≡ Reference n → ⊥
  live_kept n (reclaimed unrooted back) k h e =
      let older = λ (m : ℕ) (r : Refers store m n) (i : ℕ) (p : 0 < count_at cells i) (q : name i ≡ Reference m). live_kept m (back m r) i p q in
      elim (zero_or (outside k)) [ inr o ↦ unrooted (record { place = k; out = o; names = e }) | inl z ↦ held older z ]
    where
      held : ((m : ℕ) → Refers store m n → (i : ℕ) → 0 < count_at cells i → name i ≡ Reference m → ⊥) → outside k ≡ 0 → ⊥
      held older z =
          let r = references_some k cells (let c = s.corresponds.counted k in omega arith) in
          from r.0 (cell_at cells r.0) refl r.1
        where
          from : (i : ℕ) (o : Option HeldCell) → cell_at cells i ≡ o → 0 < occurrences k (inner_of o) → ⊥
          from i None q p = absurd (omega arith)
          from i (Some c) q p =
              let l = alive i c q in
              let m = holder name store (name i) c.content k n (s.corresponds.named i c q l) p e in
              older m.0 m.2 i (subst (λ x. 0 < count_of x) (sym q) l) m.1

abbrev number_of : StoreValue → ℕ
number_of (Reference n) = n
number_of _ = 0

abbrev put : ℕ → ℕ → List ℕ → List ℕ
put zero n ns = ns
put (suc i) n ns = n ∷ ns

-- the objects for which the cells stand
abbrev objects_of : Naming → Cells → List ℕ
objects_of name [] = []
objects_of name (c ∷ cells) = put (object_count c) (number_of (name 0)) (objects_of (λ k. name (suc k)) cells)

count_or : (o : Option HeldCell) → (object_count o ≡ 0) ⊎ (object_count o ≡ 1)
count_or None = inl refl
count_or (Some c) = go c.content
  where
    go : (x : Content) → (object_count (Some (record { count = c.count; content = x })) ≡ 0) ⊎ (object_count (Some (record { count = c.count; content = x })) ≡ 1)
    go (Text t) = inl refl
    go (Array vs) = inr refl
    go (Pairs es) = inr refl
    go (Message m) = inr refl

objects_length : (name : Naming) (cells : Cells) → length (objects_of name cells) ≡ live_cells cells
objects_length name [] = refl
objects_length name (c ∷ cells) =
    let e = objects_length (λ k. name (suc k)) cells in
    elim (count_or c) [ inl z ↦ rw z (omega arith) | inr o ↦ rw o (omega arith) ]

among_place : (n : ℕ) (name : Naming) (cells : Cells) → Among n (objects_of name cells) → (k : ℕ) × (0 < object_count (cell_at cells k)) × (number_of (name k) ≡ n)
among_place n name [] a = absurd a
among_place n name (c ∷ cells) a =
    let more = among_place n (λ k. name (suc k)) cells in
    let rest = objects_of (λ k. name (suc k)) cells in
    elim (count_or c) [ inl z ↦ let b : Among n rest = subst (λ i. Among n (put i (number_of (name 0)) rest)) z a in let r = more b in (suc r.0, r.1, r.2) | inr o ↦ let b : Among n (number_of (name 0) ∷ rest) = subst (λ i. Among n (put i (number_of (name 0)) rest)) o a in elim b [ inl e ↦ (zero, omega arith, sym e) | inr d ↦ let r = more d in (suc r.0, r.1, r.2) ] ]

place_among : (name : Naming) (cells : Cells) (k : ℕ) → 0 < object_count (cell_at cells k) → Among (number_of (name k)) (objects_of name cells)
place_among name [] k h = absurd (omega arith)
place_among name (c ∷ cells) zero h =
    let rest = objects_of (λ k. name (suc k)) cells in
    elim (count_or c) [ inl z ↦ absurd (omega arith) | inr o ↦ subst (λ i. Among (number_of (name 0)) (put i (number_of (name 0)) rest)) (sym o) (inl refl) ]
place_among name (c ∷ cells) (suc k) h =
    let rest = objects_of (λ k. name (suc k)) cells in
    let r = place_among (λ k. name (suc k)) cells k h in
    elim (count_or c) [ inl z ↦ subst (λ i. Among (number_of (name (suc k))) (put i (number_of (name 0)) rest)) (sym z) r | inr o ↦ subst (λ i. Among (number_of (name (suc k))) (put i (number_of (name 0)) rest)) (sym o) (inr r) ]

objects_distinct : (name : Naming) (cells : Cells) → ((j k : ℕ) → 0 < object_count (cell_at cells j) → 0 < object_count (cell_at cells k) → number_of (name j) ≡ number_of (name k) → j ≡ k) → Distinct (objects_of name cells)
objects_distinct name [] h = tt
objects_distinct name (c ∷ cells) h =
    let rest = objects_of (λ k. name (suc k)) cells in
    let more = objects_distinct (λ k. name (suc k)) cells (λ j k pj pk e. let q = h (suc j) (suc k) pj pk e in omega arith) in
    let new : 0 < object_count c → Among (number_of (name 0)) rest → ⊥ = λ p a. let r = among_place (number_of (name 0)) (λ k. name (suc k)) cells a in let q = h (suc r.0) zero r.1 p r.2 in omega arith in
    elim (count_or c) [ inl z ↦ subst (λ i. Distinct (put i (number_of (name 0)) rest)) (sym z) more | inr o ↦ subst (λ i. Distinct (put i (number_of (name 0)) rest)) (sym o) (new (omega arith), more) ]

-- a cell that holds an object
object_at : (name : Naming) (cells : Cells) (store : Store) (outside : Outside) (s : Stands name cells store outside) (alive : Alive cells) (k : ℕ) → 0 < object_count (cell_at cells k) → (0 < count_at cells k) × (name k ≡ Reference (number_of (name k))) × (number_of (name k) < length store)
object_at name cells store outside s alive k h = go (cell_at cells k) refl h
  where
    go : (o : Option HeldCell) → cell_at cells k ≡ o → 0 < object_count o → (0 < count_at cells k) × (name k ≡ Reference (number_of (name k))) × (number_of (name k) < length store)
    go None q p = absurd (omega arith)
    go (Some c) q p = of c.content refl
      where
        l : 0 < c.count
        l = alive k c q

        lk : 0 < count_at cells k
        lk = subst (λ x. 0 < count_of x) (sym q) l

        of : (x : Content) → c.content ≡ x → (0 < count_at cells k) × (name k ≡ Reference (number_of (name k))) × (number_of (name k) < length store)
        of (Text t) e = absurd (let z : object_count (Some c) ≡ 0 = ap (λ x. object_count (Some (record { count = c.count; content = x }))) e in omega arith)
        of (Array vs) e =
            let f : CellFits name store (name k) (Array vs) = subst (CellFits name store (name k)) e (s.corresponds.named k c q l) in
            let n : number_of (name k) ≡ f.0 = ap number_of f.1 in
            (lk, f.1 ∙ ap Reference (sym n), let w = slice_get_within store f.0 _ f.2 in omega arith)
        of (Pairs es) e =
            let f : CellFits name store (name k) (Pairs es) = subst (CellFits name store (name k)) e (s.corresponds.named k c q l) in
            let n : number_of (name k) ≡ f.0 = ap number_of f.1 in
            (lk, f.1 ∙ ap Reference (sym n), let w = slice_get_within store f.0 _ f.2 in omega arith)
        of (Message m) e =
            let f : CellFits name store (name k) (Message m) = subst (CellFits name store (name k)) e (s.corresponds.named k c q l) in
            let n : number_of (name k) ≡ f.0 = ap number_of f.1 in
            (lk, f.1 ∙ ap Reference (sym n), let w = slice_get_within store f.0 _ f.2 in omega arith)

-- a cell that stands for an object holds occurrence
at_object : (name : Naming) (cells : Cells) (store : Store) (outside : Outside) (s : Stands name cells store outside) (k n : ℕ) → 0 < count_at cells k → name k ≡ Reference n → 0 < object_count (cell_at cells k)
at_object name cells store outside s k n h e =
    let c = cell_of cells k h in
    let f = s.corresponds.named k c.0 c.1 c.2 in
    subst (λ x. 0 < object_count x) (sym c.1) (of c.0.count c.0.content f)
  where
    of : (i : ℕ) (x : Content) → CellFits name store (name k) x → 0 < object_count (Some (record { count = i; content = x }))
    of i (Text t) f = absurd cc
    of i (Array vs) f = omega arith
    of i (Pairs es) f = omega arith
    of i (Message m) f = omega arith

-- the number of live cells is that of the kept objects
pub live_number : (name : Naming) (cells : Cells) (store : Store) (outside : Outside) → Stands name cells store outside → Alive cells → KeptNumber store (Rooted name outside) (live_cells cells)
live_number name cells store outside s alive = record {
  objects = objects_of name cells;
  distinct = objects_distinct name cells (λ j k pj pk e. let a = object_at name cells store outside s alive j pj in let b = object_at name cells store outside s alive k pk in s.corresponds.apart j k (number_of (name k)) a.0 b.0 (a.1 ∙ ap Reference e) b.1);
  only = λ n a. let r = among_place n name cells a in let o = object_at name cells store outside s alive r.0 r.1 in (omega (arith, o.2, r.2), λ g. live_kept name cells store outside s alive n g r.0 o.0 (o.1 ∙ ap Reference r.2));
  each = λ n kept. elim (among_or n (objects_of name cells)) [ inl a ↦ a | inr b ↦ absurd (kept.1 (s.reclaims n kept.0 (λ k h e. b (subst (λ x. Among x (objects_of name cells)) (ap number_of e) (place_among name cells k (at_object name cells store outside s k n h e)))))) ];
  number_is = objects_length name cells;
}
