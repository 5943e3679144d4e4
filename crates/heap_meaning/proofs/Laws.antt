-- What each change of occurrence cell does to what a heap stands for.
use Rattle.std.proofs.Common.{◌≡◌, ℕ, zero, suc, ◌<◌, List, [], ◌∷◌, map, Option, Some, None, refl, sym, ap, ◌∙◌, subst, arith, ◌⊎◌, inl, inr}
use Rattle.std.specs.Prelude.{slice_get}
use Rattle.std.proofs.lemmas.Grind.{common_steps}
use Rattle.heap_meaning.specs.Values.{Cell, Direct, Entry, Reference, Scalar, StoreValue, Value, Words}
use Rattle.heap_meaning.specs.Store.{Object, ArrayObject, MapObject, MessageObject, Store, members, mention, mentions, Refers, Reclaimed, reclaimed}
use Rattle.heap_meaning.specs.Cells.{Content, Text, Array, Pairs, Message, HeldCell, Cells, occurrence, occurrences, inner, inner_of, count_of, cell_at, count_at}
use Rattle.heap_meaning.specs.Stands.{Naming, Outside, meaning, entry_meaning, CellFits, Rooted, Unnamed, Corresponds}
use Rattle.heap_meaning.proofs.Counts.{references_cell, occurrence_self}

mention_ref : (n : ℕ) (w : StoreValue) → 0 < mention n w → w ≡ Reference n
mention_ref n (Scalar p) h = absurd (omega arith)
mention_ref n (Words b) h = absurd (omega arith)
mention_ref n (Reference m) h = let e : m ≡ n = grind (arith, common_steps) in ap Reference e

occurrence_cell : (k : ℕ) (v : Value) → 0 < occurrence k v → v ≡ Cell k
occurrence_cell k (Direct p) h = absurd (omega arith)
occurrence_cell k (Cell j) h = let e : j ≡ k = grind (arith, common_steps) in ap Cell e

ref_value : (name : Naming) (n : ℕ) (v : Value) → meaning name v ≡ Reference n → (k : ℕ) × (v ≡ Cell k) × (name k ≡ Reference n)
ref_value name n (Direct p) e = absurd cc
ref_value name n (Cell k) e = (k, refl, e)

pub zero_or : (m : ℕ) → (m ≡ 0) ⊎ (0 < m)
zero_or zero = inl refl
zero_or (suc m) = inr (omega arith)

-- an object named among views is that of a cell named among the values
pub mentions_view : (name : Naming) (n : ℕ) (vs : List Value) → 0 < mentions n (map (meaning name) vs) → (k : ℕ) × (0 < occurrences k vs) × (name k ≡ Reference n)
mentions_view name n [] h = absurd (omega arith)
mentions_view name n (v ∷ vs) h = elim (zero_or (mention n (meaning name v))) [ inl z ↦ let r = mentions_view name n vs (omega arith) in (r.0, omega (arith, r.1), r.2) | inr p ↦ from_head p ]
  where
    from_head : 0 < mention n (meaning name v) → (k : ℕ) × (0 < occurrences k (v ∷ vs)) × (name k ≡ Reference n)
    from_head p =
        let r = ref_value name n v (mention_ref n (meaning name v) p) in
        let o : occurrence r.0 v ≡ 1 = ap (occurrence r.0) r.1 ∙ occurrence_self r.0 in
        (r.0, omega arith, r.2)

pub pair_members : (name : Naming) (es : List (Entry Value)) → map (λ p. p.value) (map (entry_meaning name) es) ≡ map (meaning name) (map (λ e. e.value) es)
pair_members name [] = refl
pair_members name (e ∷ es) = ap (λ r. meaning name e.value ∷ r) (pair_members name es)

-- the object for which a cell stands has the views of its items
pub fits_members : (name : Naming) (store : Store) (w : StoreValue) (c : Content) (n : ℕ) → CellFits name store w c → w ≡ Reference n → (o : Object) × (slice_get store n ≡ Some o) × (members o ≡ map (meaning name) (inner c))
fits_members name store w (Text t) n f e = absurd cc
fits_members name store w (Array vs) n f e =
    let g : f.0 ≡ n = cc in (ArrayObject (map (meaning name) vs), subst (λ i. slice_get store i ≡ Some (ArrayObject (map (meaning name) vs))) g f.2, refl)
fits_members name store w (Pairs es) n f e =
    let g : f.0 ≡ n = cc in (MapObject (map (entry_meaning name) es), subst (λ i. slice_get store i ≡ Some (MapObject (map (entry_meaning name) es))) g f.2, pair_members name es)
fits_members name store w (Message m) n f e =
    let g : f.0 ≡ n = cc in (MessageObject m, subst (λ i. slice_get store i ≡ Some (MessageObject m)) g f.2, refl)

-- a place with a count has a cell
pub cell_of : (cells : Cells) (k : ℕ) → 0 < count_at cells k → (c : HeldCell) × (cell_at cells k ≡ Some c) × (0 < c.count)
cell_of cells k h = go (cell_at cells k) refl h
  where
    go : (o : Option HeldCell) → cell_at cells k ≡ o → 0 < count_of o → (c : HeldCell) × (cell_at cells k ≡ Some c) × (0 < c.count)
    go None e p = absurd (omega arith)
    go (Some c) e p = (c, e, p)

module _ (name : Naming) (cells : Cells) (store : Store) (outside : Outside) (corresponds : Corresponds name cells store outside) where
  -- the object of cell k refers to an object: then an item of cell k names it
  pub item_names : (k m n : ℕ) → 0 < count_at cells k → name k ≡ Reference m → Refers store m n → (j : ℕ) × (0 < occurrences j (inner_of (cell_at cells k))) × (name j ≡ Reference n)
  item_names k m n h e r =
      let c = cell_of cells k h in
      let f = fits_members name store (name k) c.0.content m (corresponds.named k c.0 c.1 c.2) e in
      let o : f.0 ≡ r.object = let a = f.1 in let b = r.there in cc in
      let ms : mentions n (members r.object) ≡ mentions n (map (meaning name) (inner c.0.content)) = ap (λ x. mentions n (members x)) (sym o) ∙ ap (mentions n) f.2 in
      let p = mentions_view name n (inner c.0.content) (let q = r.named in omega arith) in
      (p.0, subst (λ x. 0 < occurrences p.0 (inner_of x)) (sym c.1) p.1, p.2)

  -- what an item names has a count
  pub item_counts : (k j : ℕ) → 0 < occurrences j (inner_of (cell_at cells k)) → 0 < count_at cells j
  item_counts k j h = let e = corresponds.counted j in let f = references_cell j k cells in omega arith

  -- what is out has a count
  pub out_counts : (k : ℕ) → 0 < outside k → 0 < count_at cells k
  out_counts k h = let e = corresponds.counted k in omega arith

  -- what refers to an unnamed object is unnamed
  pub unnamed_back : (m n : ℕ) → Unnamed name cells n → Refers store m n → Unnamed name cells m
  unnamed_back m n u r k h e = let p = item_names k m n h e r in u p.0 (item_counts k p.0 p.1) p.2

  pub unnamed_free : (n : ℕ) → Unnamed name cells n → Rooted name outside n → ⊥
  unnamed_free n u r = u r.place (out_counts r.place r.out) r.names

  -- what was reclaimed stays reclaimed, if no unnamed object is referred to anew
  pub gone_kept : (store_old : Store) (root : ℕ → Type 0) → ((m n : ℕ) → Unnamed name cells n → Refers store m n → Refers store_old m n) → (n : ℕ) → Unnamed name cells n → Reclaimed store_old root n → Reclaimed store (Rooted name outside) n
  gone_kept store_old root back n u (reclaimed unrooted all) =
      reclaimed (unnamed_free n u) (λ m r. gone_kept store_old root back m (unnamed_back m n u r) (all m (back m n u r)))
