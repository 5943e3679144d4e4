-- A new cell, and a write to a cell.
use Rattle.std.proofs.Common.{◌≡◌, ◌≢◌, ℕ, zero, suc, ◌+◌, ◌<◌, ◌≤◌, List, [], ◌∷◌, ◌++◌, length, map, Some, None, refl, sym, ap, ◌∙◌, subst, arith, cond, ◌==◌, ◌⊎◌, inl, inr}
use Rattle.std.specs.Prelude.{slice_get, slice_set}
use Rattle.std.proofs.lemmas.Option.{slice_get_within}
use Rattle.std.proofs.lemmas.Grind.{common_steps}
use Rattle.heap_meaning.specs.Values.{Cell, Direct, Entry, Reference, StoreValue, Value}
use Rattle.heap_meaning.specs.Store.{Object, ArrayObject, MapObject, Store, Refers}
use Rattle.heap_meaning.specs.Cells.{Content, Text, Array, Pairs, Message, HeldCell, Cells, occurrence, occurrences, inner, inner_of, count_of, cell_at, count_at, item_references, ChangesCell}
use Rattle.heap_meaning.specs.Stands.{Naming, Outside, meaning, entry_meaning, CellFits, Rooted, Unnamed, Corresponds, Reclaims, Stands}
use Rattle.heap_meaning.proofs.Counts.{references_sets, occurrence_self, occurrence_other, same_or}
use Rattle.heap_meaning.proofs.Laws.{cell_of, item_counts, out_counts, unnamed_back, gone_kept}
use Rattle.heap_meaning.proofs.Steps.{count_sets, count_other}

pub get_front : {A : Type 0} (xs ys : List A) (i : ℕ) → i < length xs → slice_get (xs ++ ys) i ≡ slice_get xs i
get_front [] ys i h = absurd (omega arith)
get_front (x ∷ xs) ys zero h = refl
get_front (x ∷ xs) ys (suc i) h = get_front xs ys i (omega arith)

pub get_last : {A : Type 0} (xs : List A) (y : A) → slice_get (xs ++ y ∷ []) (length xs) ≡ Some y
get_last [] y = refl
get_last (x ∷ xs) y = get_last xs y

pub get_set_same : {A : Type 0} (xs : List A) (i : ℕ) (y : A) → i < length xs → slice_get (slice_set xs i y) i ≡ Some y
get_set_same [] i y h = absurd (omega arith)
get_set_same (x ∷ xs) zero y h = refl
get_set_same (x ∷ xs) (suc i) y h = get_set_same xs i y (omega arith)

pub get_set_other : {A : Type 0} (xs : List A) (i k : ℕ) (y : A) → k ≢ i → slice_get (slice_set xs i y) k ≡ slice_get xs k
get_set_other [] i k y d = refl
get_set_other (x ∷ xs) zero zero y d = absurd (d refl)
get_set_other (x ∷ xs) zero (suc k) y d = refl
get_set_other (x ∷ xs) (suc i) zero y d = refl
get_set_other (x ∷ xs) (suc i) (suc k) y d = get_set_other xs i k y (λ e. d (ap suc e))

pub length_set : {A : Type 0} (xs : List A) (i : ℕ) (y : A) → length (slice_set xs i y) ≡ length xs
length_set [] i y = refl
length_set (x ∷ xs) zero y = refl
length_set (x ∷ xs) (suc i) y = ap suc (length_set xs i y)

-- the value's cell has the same name
pub view_agrees : (name name' : Naming) (v : Value) → ((k : ℕ) → 0 < occurrence k v → name' k ≡ name k) → meaning name' v ≡ meaning name v
view_agrees name name' (Direct p) h = refl
view_agrees name name' (Cell k) h = h k (let e = occurrence_self k in omega arith)

pub views_agree : (name name' : Naming) (vs : List Value) → ((k : ℕ) → 0 < occurrences k vs → name' k ≡ name k) → map (meaning name') vs ≡ map (meaning name) vs
views_agree name name' [] h = refl
views_agree name name' (v ∷ vs) h =
    let a = view_agrees name name' v (λ k p. h k (omega arith)) in
    let b = views_agree name name' vs (λ k p. h k (omega arith)) in cc

pub pairs_agree : (name name' : Naming) (es : List (Entry Value)) → ((k : ℕ) → 0 < occurrences k (map (λ e. e.value) es) → name' k ≡ name k) → map (entry_meaning name') es ≡ map (entry_meaning name) es
pairs_agree name name' [] h = refl
pairs_agree name name' (e ∷ es) h =
    let a : entry_meaning name' e ≡ entry_meaning name e = ap (λ w. record { key = e.key; value = w }) (view_agrees name name' e.value (λ k p. h k (omega arith))) in
    let b = pairs_agree name name' es (λ k p. h k (omega arith)) in cc

pub fits_agree : (name name' : Naming) (store : Store) (w : StoreValue) (c : Content) → ((k : ℕ) → 0 < occurrences k (inner c) → name' k ≡ name k) → CellFits name store w c → CellFits name' store w c
fits_agree name name' store w (Text t) h f = f
fits_agree name name' store w (Array vs) h f = (f.0, f.1, f.2 ∙ ap (λ r. Some (ArrayObject r)) (sym (views_agree name name' vs h)))
fits_agree name name' store w (Pairs es) h f = (f.0, f.1, f.2 ∙ ap (λ r. Some (MapObject r)) (sym (pairs_agree name name' es h)))
fits_agree name name' store w (Message m) h f = f

pub fits_store : (name : Naming) (store store' : Store) (w : StoreValue) (c : Content) → ((n : ℕ) → w ≡ Reference n → n < length store → slice_get store' n ≡ slice_get store n) → CellFits name store w c → CellFits name store' w c
fits_store name store store' w (Text t) h f = f
fits_store name store store' w (Array vs) h f = (f.0, f.1, h f.0 f.1 (slice_get_within store f.0 _ f.2) ∙ f.2)
fits_store name store store' w (Pairs es) h f = (f.0, f.1, h f.0 f.1 (slice_get_within store f.0 _ f.2) ∙ f.2)
fits_store name store store' w (Message m) h f = (f.0, f.1, h f.0 f.1 (slice_get_within store f.0 _ f.2) ∙ f.2)

-- an object for which a cell stands is in the store
pub fits_within : (name : Naming) (store : Store) (w : StoreValue) (c : Content) (n : ℕ) → CellFits name store w c → w ≡ Reference n → n < length store
fits_within name store w (Text t) n f e = absurd cc
fits_within name store w (Array vs) n f e = let g : f.0 ≡ n = cc in let l = slice_get_within store f.0 _ f.2 in omega arith
fits_within name store w (Pairs es) n f e = let g : f.0 ≡ n = cc in let l = slice_get_within store f.0 _ f.2 in omega arith
fits_within name store w (Message m) n f e = let g : f.0 ≡ n = cc in let l = slice_get_within store f.0 _ f.2 in omega arith

pub name_within : (name : Naming) (cells : Cells) (store : Store) (outside : Outside) → Corresponds name cells store outside → (k n : ℕ) → 0 < count_at cells k → name k ≡ Reference n → n < length store
name_within name cells store outside corresponds k n h e = let c = cell_of cells k h in fits_within name store (name k) c.0.content n (corresponds.named k c.0 c.1 c.2) e

-- cell j stands for w, and the others for what they stood for
abbrev pub named_too : Naming → ℕ → StoreValue → Naming
named_too name j w k = cond (k == j) w (name k)

pub named_new : (name : Naming) (j : ℕ) (w : StoreValue) → named_too name j w j ≡ w
named_new name j w = grind (arith, common_steps)

pub named_old : (name : Naming) (j : ℕ) (w : StoreValue) (k : ℕ) → k ≢ j → named_too name j w k ≡ name k
named_old name j w k d = grind (arith, common_steps)

-- a cell at a place that was free, for a text or a new object; its items were out
module _ (name : Naming) (cells cells' : Cells) (store store' : Store) (outside outside' rest : Outside) (stands : Stands name cells store outside)
    (j : ℕ) (vacant : cell_at cells j ≡ None) (content : Content) (sets : ChangesCell cells cells' j (Some (record { count = 1; content = content })))
    (takes : (k : ℕ) → outside k ≡ occurrences k (inner content) + rest k) (gives : (k : ℕ) → outside' k ≡ occurrence k (Cell j) + rest k)
    (w : StoreValue) (fits : CellFits name store' w content) (front : (n : ℕ) → n < length store → slice_get store' n ≡ slice_get store n)
    (only : (n : ℕ) → n < length store' → (n < length store) ⊎ (w ≡ Reference n)) (fresh : (n : ℕ) → w ≡ Reference n → length store ≤ n) where
  abbrev name' : Naming
  name' = named_too name j w

  no_count : count_at cells j ≡ 0
  no_count = ap count_of vacant

  -- what had a count is not the new cell
  not_new : (k : ℕ) → 0 < count_at cells k → k ≢ j
  not_new k h q = let e = ap (count_at cells) q in let f = no_count in omega arith

  pub new_agrees : (k : ℕ) → 0 < outside k → name' k ≡ name k
  new_agrees k h = named_old name j w k (not_new k (out_counts name cells store outside stands.corresponds k h))

  counted : (k : ℕ) → count_at cells' k ≡ item_references k cells' + outside' k
  counted k =
      let a = references_sets k j cells cells' _ sets in
      let b : occurrences k (inner_of (cell_at cells j)) ≡ 0 = ap (λ y. occurrences k (inner_of y)) vacant in
      let t = takes k in let g = gives k in let e = stands.corresponds.counted k in
      elim (same_or k j) [ inl q ↦ here q | inr d ↦ let o = occurrence_other k j d in let f = count_other cells cells' j _ sets k d in omega arith ]
    where
      here : k ≡ j → count_at cells' k ≡ item_references k cells' + outside' k
      here q =
          subst (λ i. count_at cells' i ≡ item_references i cells' + outside' i) (sym q)
          (let a = references_sets j j cells cells' _ sets in
          let b : occurrences j (inner_of (cell_at cells j)) ≡ 0 = ap (λ y. occurrences j (inner_of y)) vacant in
          let t = takes j in let g = gives j in let e = stands.corresponds.counted j in
          let o = occurrence_self j in let f = count_sets cells cells' j _ sets in let z = no_count in omega arith)

  item_agrees : (k i : ℕ) → 0 < occurrences i (inner_of (cell_at cells k)) → name' i ≡ name i
  item_agrees k i h = named_old name j w i (not_new i (item_counts name cells store outside stands.corresponds k i h))

  named : (k : ℕ) (c : HeldCell) → cell_at cells' k ≡ Some c → 0 < c.count → CellFits name' store' (name' k) c.content
  named k c e p = elim (same_or k j) [ inl q ↦ here q | inr d ↦ there d ]
    where
      here : k ≡ j → CellFits name' store' (name' k) c.content
      here q =
          let s = sets.changed in
          let e' : cell_at cells' j ≡ Some c = ap (cell_at cells') (sym q) ∙ e in
          let f : record { count = 1; content = content } ≡ c = cc in
          let g : content ≡ c.content = ap (λ (h : HeldCell). h.content) f in
          let n : name' k ≡ w = ap name' q ∙ named_new name j w in
          let a = fits_agree name name' store' w content (λ i h. new_agrees i (let t = takes i in omega arith)) fits in
          subst (λ x. CellFits name' store' (name' k) x) g (subst (λ x. CellFits name' store' x content) (sym n) a)

      there : k ≢ j → CellFits name' store' (name' k) c.content
      there d =
          let o : cell_at cells k ≡ Some c = sym (sets.others k d) ∙ e in
          let f = stands.corresponds.named k c o p in
          let g = fits_store name store store' (name k) c.content (λ n q l. front n l) f in
          let a = fits_agree name name' store' (name k) c.content (λ i h. item_agrees k i (subst (λ x. 0 < occurrences i (inner_of x)) (sym o) h)) g in
          subst (λ x. CellFits name' store' x c.content) (sym (named_old name j w k d)) a

  old_counted : (k : ℕ) → k ≢ j → 0 < count_at cells' k → 0 < count_at cells k
  old_counted k d h = let b = count_other cells cells' j _ sets k d in omega arith

  apart : (a b n : ℕ) → 0 < count_at cells' a → 0 < count_at cells' b → name' a ≡ Reference n → name' b ≡ Reference n → a ≡ b
  apart a b n pa pb ea eb = elim (same_or a j) [ inl qa ↦ elim (same_or b j) [ inl qb ↦ qa ∙ sym qb | inr db ↦ absurd (clash a b qa db pb ea eb) ] | inr da ↦ elim (same_or b j) [ inl qb ↦ absurd (clash b a qb da pa eb ea) | inr db ↦ stands.corresponds.apart a b n (old_counted a da pa) (old_counted b db pb) (sym (named_old name j w a da) ∙ ea) (sym (named_old name j w b db) ∙ eb) ] ]
    where
      clash : (x y : ℕ) → x ≡ j → y ≢ j → 0 < count_at cells' y → name' x ≡ Reference n → name' y ≡ Reference n → ⊥
      clash x y q d p ex ey =
          let a = fresh n (sym (ap name' q ∙ named_new name j w) ∙ ex) in
          let b = name_within name cells store outside stands.corresponds y n (old_counted y d p) (sym (named_old name j w y d) ∙ ey) in omega arith

  pub new_corresponds : Corresponds name' cells' store' outside'
  new_corresponds = record { counted = counted; named = named; apart = apart }

  new_counts : 0 < count_at cells' j
  new_counts = let b = count_sets cells cells' j _ sets in omega arith

  -- an unnamed object is an old occurrence
  is_old : (n : ℕ) → n < length store' → Unnamed name' cells' n → n < length store
  is_old n l u = elim (only n l) [ inl o ↦ o | inr e ↦ absurd (u j new_counts (named_new name j w ∙ e)) ]

  pub new_stands : Stands name' cells' store' outside'
  new_stands = record { corresponds = new_corresponds; reclaims = reclaims }
    where
      back : (m n : ℕ) → Unnamed name' cells' n → Refers store' m n → Refers store m n
      back m n u r =
          let v = unnamed_back name' cells' store' outside' new_corresponds m n u r in
          let l = is_old m (slice_get_within store' m r.object r.there) v in
          record { object = r.object; there = sym (front m l) ∙ r.there; named = r.named }

      reclaims : Reclaims name' cells' store' outside'
      reclaims n l u = gone_kept name' cells' store' outside' new_corresponds store (Rooted name outside) back n u (stands.reclaims n (is_old n l u) was)
        where
          was : Unnamed name cells n
          was k h e = let d = not_new k h in u k (let b = count_other cells cells' j _ sets k d in omega arith) (named_old name j w k d ∙ e)

-- a cell with a count holds something else, and its object too
module _ (name : Naming) (cells cells' : Cells) (store : Store) (outside outside' : Outside) (stands : Stands name cells store outside)
    (j : ℕ) (c : HeldCell) (there : cell_at cells j ≡ Some c) (live : 0 < c.count) (content : Content)
    (sets : ChangesCell cells cells' j (Some (record { count = c.count; content = content })))
    (moved : (k : ℕ) → occurrences k (inner c.content) + outside k ≡ occurrences k (inner content) + outside' k)
    (n : ℕ) (names : name j ≡ Reference n) (object : Object) (fits : CellFits name (slice_set store n object) (Reference n) content) where
  abbrev store' : Store
  store' = slice_set store n object

  counts : (k : ℕ) → count_at cells' k ≡ count_at cells k
  counts k = elim (same_or k j) [ inl q ↦ subst (λ i. count_at cells' i ≡ count_at cells i) (sym q) (let a = count_sets cells cells' j _ sets in let b : count_at cells j ≡ c.count = ap count_of there in omega arith) | inr d ↦ count_other cells cells' j _ sets k d ]

  j_counts : 0 < count_at cells j
  j_counts = let b : count_at cells j ≡ c.count = ap count_of there in omega arith

  wcounted : (k : ℕ) → count_at cells' k ≡ item_references k cells' + outside' k
  wcounted k =
      let a = references_sets k j cells cells' _ sets in
      let b : occurrences k (inner_of (cell_at cells j)) ≡ occurrences k (inner c.content) = ap (λ y. occurrences k (inner_of y)) there in
      let e = counts k in let m = moved k in let f = stands.corresponds.counted k in omega arith

  wnamed : (k : ℕ) (b : HeldCell) → cell_at cells' k ≡ Some b → 0 < b.count → CellFits name store' (name k) b.content
  wnamed k b e p = elim (same_or k j) [ inl q ↦ here q | inr d ↦ other d ]
    where
      here : k ≡ j → CellFits name store' (name k) b.content
      here q =
          let s = sets.changed in
          let e' : cell_at cells' j ≡ Some b = ap (cell_at cells') (sym q) ∙ e in
          let f : record { count = c.count; content = content } ≡ b = cc in
          let g : content ≡ b.content = ap (λ (h : HeldCell). h.content) f in
          let i : name k ≡ Reference n = ap name q ∙ names in
          subst (λ x. CellFits name store' (name k) x) g (subst (λ x. CellFits name store' x content) (sym i) fits)

      other : k ≢ j → CellFits name store' (name k) b.content
      other d =
          let o : cell_at cells k ≡ Some b = sym (sets.others k d) ∙ e in
          let pk : 0 < count_at cells k = subst (λ x. 0 < count_of x) (sym o) p in
          fits_store name store store' (name k) b.content (λ m q l. get_set_other store n m object (λ z. d (stands.corresponds.apart k j n pk j_counts (q ∙ ap Reference z) names))) (stands.corresponds.named k b o p)

  pub write_corresponds : Corresponds name cells' store' outside'
  write_corresponds = record {
    counted = wcounted;
    named = wnamed;
    apart = λ a b i pa pb. stands.corresponds.apart a b i (let x = counts a in omega arith) (let x = counts b in omega arith);
  }

  pub write_stands : Stands name cells' store' outside'
  write_stands = record { corresponds = write_corresponds; reclaims = reclaims }
    where
      back : (m i : ℕ) → Unnamed name cells' i → Refers store' m i → Refers store m i
      back m i u r =
          let v = unnamed_back name cells' store' outside' write_corresponds m i u r in
          let d : m ≢ n = λ q. v j (let x = counts j in let y = j_counts in omega arith) (names ∙ ap Reference (sym q)) in
          record { object = r.object; there = sym (get_set_other store n m object d) ∙ r.there; named = r.named }

      reclaims : Reclaims name cells' store' outside'
      reclaims m l u = gone_kept name cells' store' outside' write_corresponds store (Rooted name outside) back m u (stands.reclaims m (let x = length_set store n object in omega arith) (λ k h e. u k (let x = counts k in omega arith) e))
