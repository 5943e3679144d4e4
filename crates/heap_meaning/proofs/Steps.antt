-- One change of occurrence cell, and what the heap stands for after it.
use Rattle.std.proofs.Common.{◌≡◌, ◌≢◌, ℕ, ◌+◌, ◌<◌, length, Option, Some, refl, sym, ap, ◌∙◌, subst, arith, ◌⊎◌, inl, inr}
use Rattle.std.proofs.lemmas.Option.{slice_get_within}
use Rattle.heap_meaning.specs.Values.{Cell, Reference, Scalar, StoreValue, Words}
use Rattle.heap_meaning.specs.Store.{Store, Refers, Reclaimed, reclaimed}
use Rattle.heap_meaning.specs.Cells.{HeldCell, Cells, occurrence, occurrences, inner, inner_of, count_of, cell_at, count_at, item_references, ChangesCell}
use Rattle.heap_meaning.specs.Stands.{Naming, Outside, CellFits, Rooted, Unnamed, Corresponds, Reclaims, Stands, Stands}
use Rattle.heap_meaning.proofs.Counts.{references_sets, references_cell, occurrence_self, occurrence_other, same_or}
use Rattle.heap_meaning.proofs.Laws.{zero_or, cell_of, item_names, item_counts, unnamed_back, unnamed_free, gone_kept}

pub is_ref : (w : StoreValue) (n : ℕ) → (w ≡ Reference n) ⊎ (w ≢ Reference n)
is_ref (Scalar p) n = inr (λ e. cc)
is_ref (Words b) n = inr (λ e. cc)
is_ref (Reference m) n = elim (same_or m n) [ inl e ↦ inl (ap Reference e) | inr d ↦ inr (λ e. d (cc)) ]

pub count_sets : (a b : Cells) (j : ℕ) (x : Option HeldCell) → ChangesCell a b j x → count_at b j ≡ count_of x
count_sets a b j x s = ap count_of s.changed

pub count_other : (a b : Cells) (j : ℕ) (x : Option HeldCell) → ChangesCell a b j x → (k : ℕ) → k ≢ j → count_at b k ≡ count_at a k
count_other a b j x s k d = ap count_of (s.others k d)

-- a cell with a count had occurrence before, and held the same
abbrev pub Kept : Cells → Cells → Type 0
Kept cells cells' = (k : ℕ) (c : HeldCell) → cell_at cells' k ≡ Some c → 0 < c.count → (b : HeldCell) × (cell_at cells k ≡ Some b) × (0 < b.count) × (b.content ≡ c.content)

-- name and store stay
module _ (name : Naming) (cells cells' : Cells) (store : Store) (outside outside' : Outside) (stands : Stands name cells store outside)
    (counted : (k : ℕ) → count_at cells' k ≡ item_references k cells' + outside' k) (kept : Kept cells cells') where
  was_counted : (k : ℕ) → 0 < count_at cells' k → 0 < count_at cells k
  was_counted k h =
      let c = cell_of cells' k h in
      let q = kept k c.0 c.1 c.2 in
      subst (λ x. 0 < count_of x) (sym q.1) q.2

  pub same_corresponds : Corresponds name cells' store outside'
  same_corresponds = record {
    counted = counted;
    named = λ k c e p. let q = kept k c e p in subst (λ x. CellFits name store (name k) x) q.3 (stands.corresponds.named k q.0 q.1 q.2);
    apart = λ j k n pj pk. stands.corresponds.apart j k n (was_counted j pj) (was_counted k pk);
  }

  pub same_stands : ((k : ℕ) → 0 < count_at cells k → 0 < count_at cells' k) → Stands name cells' store outside'
  same_stands still = record {
    corresponds = same_corresponds;
    reclaims = λ n l u. gone_kept name cells' store outside' same_corresponds store (Rooted name outside) (λ m i w r. r) n u (stands.reclaims n l (λ k h. u k (still k h)));
  }

module _ (name : Naming) (cells cells' : Cells) (store : Store) (outside outside' : Outside) (stands : Stands name cells store outside) (j : ℕ) (c : HeldCell) (there : cell_at cells j ≡ Some c) where
  is_counted : count_at cells j ≡ c.count
  is_counted = ap count_of there

  -- the cell keeps its content, and its count becomes x
  module _ (x : ℕ) (sets : ChangesCell cells cells' j (Some (record { count = x; content = c.content }))) where
    references_stay : (k : ℕ) → item_references k cells' ≡ item_references k cells
    references_stay k =
        let e = references_sets k j cells cells' (Some (record { count = x; content = c.content })) sets in
        let f : occurrences k (inner_of (cell_at cells j)) ≡ occurrences k (inner c.content) = ap (λ y. occurrences k (inner_of y)) there in omega arith

    counts_kept : (x ≡ 0) ⊎ (0 < c.count) → Kept cells cells'
    counts_kept some k b e p = elim (same_or k j) [ inl q ↦ at_j q | inr d ↦ (b, sym (sets.others k d) ∙ e, p, refl) ]
      where
        at_j : k ≡ j → (d : HeldCell) × (cell_at cells k ≡ Some d) × (0 < d.count) × (d.content ≡ b.content)
        at_j q =
            let e' : cell_at cells' j ≡ Some b = ap (cell_at cells') (sym q) ∙ e in
            let s = sets.changed in
            let f : record { count = x; content = c.content } ≡ b = cc in
            let g : x ≡ b.count = ap (λ (h : HeldCell). h.count) f in
            let live : 0 < c.count = elim some [ inl z ↦ absurd (omega arith) | inr l ↦ l ] in
            (c, ap (cell_at cells) q ∙ there, live, ap (λ (h : HeldCell). h.content) f)

  -- occurrence more reference to a cell is out
  pub share_stands : 0 < c.count → ChangesCell cells cells' j (Some (record { count = c.count + 1; content = c.content })) → ((k : ℕ) → outside' k ≡ occurrence k (Cell j) + outside k) → Stands name cells' store outside'
  share_stands live sets out =
      same_stands name cells cells' store outside outside' stands counted (counts_kept (c.count + 1) sets (inr live)) still
    where
      counted : (k : ℕ) → count_at cells' k ≡ item_references k cells' + outside' k
      counted k = elim (same_or k j) [ inl q ↦ here q | inr d ↦ let a = references_stay (c.count + 1) sets k in let b = count_other cells cells' j _ sets k d in let o = occurrence_other k j d in let p = out k in let e = stands.corresponds.counted k in omega arith ]
        where
          here : k ≡ j → count_at cells' k ≡ item_references k cells' + outside' k
          here q = subst (λ i. count_at cells' i ≡ item_references i cells' + outside' i) (sym q) (let a = references_stay (c.count + 1) sets j in let b = count_sets cells cells' j _ sets in let o = occurrence_self j in let p = out j in let e = stands.corresponds.counted j in let f = is_counted in omega arith)

      still : (k : ℕ) → 0 < count_at cells k → 0 < count_at cells' k
      still k h = elim (same_or k j) [ inl q ↦ subst (λ i. 0 < count_at cells' i) (sym q) (let b = count_sets cells cells' j _ sets in omega arith) | inr d ↦ let b = count_other cells cells' j _ sets k d in omega arith ]

  -- a reference that was out is taken back; where it was the last occurrence, the object is reclaimed
  pub lower_stands : (x : ℕ) → c.count ≡ x + 1 → ChangesCell cells cells' j (Some (record { count = x; content = c.content })) → ((k : ℕ) → outside k ≡ occurrence k (Cell j) + outside' k) → Stands name cells' store outside'
  lower_stands x down sets out = record { corresponds = corresponds; reclaims = reclaims }
    where
      counted : (k : ℕ) → count_at cells' k ≡ item_references k cells' + outside' k
      counted k = elim (same_or k j) [ inl q ↦ here q | inr d ↦ let a = references_stay x sets k in let b = count_other cells cells' j _ sets k d in let o = occurrence_other k j d in let p = out k in let e = stands.corresponds.counted k in omega arith ]
        where
          here : k ≡ j → count_at cells' k ≡ item_references k cells' + outside' k
          here q = subst (λ i. count_at cells' i ≡ item_references i cells' + outside' i) (sym q) (let a = references_stay x sets j in let b = count_sets cells cells' j _ sets in let o = occurrence_self j in let p = out j in let e = stands.corresponds.counted j in let f = is_counted in omega arith)

      corresponds : Corresponds name cells' store outside'
      corresponds = same_corresponds name cells cells' store outside outside' stands counted (counts_kept x sets (inr (omega arith)))

      -- an object that no other cell stands for was reclaimed
      old : (m : ℕ) → m < length store → Unnamed name cells' m → name j ≢ Reference m → Reclaimed store (Rooted name outside') m
      old m l u d = gone_kept name cells' store outside' corresponds store (Rooted name outside) (λ m i w r. r) m u (stands.reclaims m l (λ k h e. u k (let b = count_other cells cells' j _ sets k (λ q. d (ap name (sym q) ∙ e)) in omega arith) e))

      reclaims : Reclaims name cells' store outside'
      reclaims n l u = elim (is_ref (name j) n) [ inl e ↦ reclaimed (unnamed_free name cells' store outside' corresponds n u) (λ m r. from m r e) | inr d ↦ old n l u d ]
        where
          from : (m : ℕ) → Refers store m n → name j ≡ Reference n → Reclaimed store (Rooted name outside') m
          from m r e = old m (slice_get_within store m r.object r.there) (unnamed_back name cells' store outside' corresponds m n u r) not_j
            where
              not_j : name j ≢ Reference m
              not_j f =
                  let z = zero_or x in
                  let p = item_names name cells store outside stands.corresponds j m n (let i = is_counted in omega arith) f r in
                  let pc = item_counts name cells store outside stands.corresponds j p.0 p.1 in
                  let s = stands.corresponds.apart p.0 j n pc (let i = is_counted in omega arith) p.2 e in
                  let w : 0 < occurrences j (inner_of (cell_at cells j)) = subst (λ i. 0 < occurrences i (inner_of (cell_at cells j))) s p.1 in
                  let rj = references_cell j j cells in
                  let ra = references_stay x sets j in
                  let b = count_sets cells cells' j _ sets in
                  let cj = counted j in
                  u j (omega arith) e

module _ (name : Naming) (cells cells' : Cells) (store : Store) (outside outside' : Outside) (stands : Stands name cells store outside) (j : ℕ) (c : HeldCell) (there : cell_at cells j ≡ Some c) (dead : c.count ≡ 0) where
  -- a cell of count 0 changes, and stays at count 0 or leaves
  module _ (slot : Option HeldCell) (sets : ChangesCell cells cells' j slot) (stays : count_of slot ≡ 0) (moved : (k : ℕ) → occurrences k (inner c.content) + outside k ≡ occurrences k (inner_of slot) + outside' k) where
    dead_counts : (k : ℕ) → count_at cells' k ≡ count_at cells k
    dead_counts k = elim (same_or k j) [ inl q ↦ subst (λ i. count_at cells' i ≡ count_at cells i) (sym q) (let a = count_sets cells cells' j slot sets in let b : count_at cells j ≡ c.count = ap count_of there in omega arith) | inr d ↦ count_other cells cells' j slot sets k d ]

    pub dead_stands : Stands name cells' store outside'
    dead_stands = same_stands name cells cells' store outside outside' stands counted kept (λ k h. let e = dead_counts k in omega arith)
      where
        counted : (k : ℕ) → count_at cells' k ≡ item_references k cells' + outside' k
        counted k =
            let a = references_sets k j cells cells' slot sets in
            let b : occurrences k (inner_of (cell_at cells j)) ≡ occurrences k (inner c.content) = ap (λ y. occurrences k (inner_of y)) there in
            let e = dead_counts k in let m = moved k in let f = stands.corresponds.counted k in omega arith

        kept : Kept cells cells'
        kept k b e p = elim (same_or k j) [ inl q ↦ absurd (let a = dead_counts k in let h : count_at cells k ≡ 0 = ap (count_at cells) q ∙ ap count_of there ∙ dead in let g : count_at cells' k ≡ b.count = ap count_of e in omega arith) | inr d ↦ (b, sym (sets.others k d) ∙ e, p, refl) ]

-- the references that are out may be told by another function
pub stands_same : (name : Naming) (cells : Cells) (store : Store) (before after : Outside) → Stands name cells store before → ((k : ℕ) → before k ≡ after k) → Stands name cells store after
stands_same name cells store before after s e =
    same_stands name cells cells store before after s (λ k. let a = s.corresponds.counted k in let b = e k in omega arith) (λ k c q p. (c, q, p, refl)) (λ k h. h)

-- each cell's count changes by the references that items gained or lost, and by those that were taken in and given out
pub counts_move : (name name' : Naming) (cells cells' : Cells) (store store' : Store) (before after taken given : Outside) → Stands name cells store before → Stands name' cells' store' after → ((k : ℕ) → before k + given k ≡ after k + taken k) → (k : ℕ) → count_at cells' k + item_references k cells + taken k ≡ count_at cells k + item_references k cells' + given k
counts_move name name' cells cells' store store' before after taken given s t e k =
    let a = s.corresponds.counted k in let b = t.corresponds.counted k in let c = e k in omega arith
