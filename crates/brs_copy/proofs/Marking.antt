-- Rounds over the cells mark those at which longer and longer chains begin.
use Rattle.std.proofs.Common.{◌≡◌, ℕ, zero, suc, ◌+◌, ◌<◌, ◌≤◌, ◌⊎◌, inl, inr, List, [], ◌∷◌, ◌++◌, length, get_or, length-append, Option, Some, None, Bool, true, false, refl, sym, ap, ◌∙◌, subst, arith, add-one}
use Rattle.std.specs.Prelude.{IsTrue, ◌↔◌, slice_get, slice_index_or}
use Rattle.std.proofs.Math.ListN.{get_or-append}
use Rattle.std.proofs.Math.Seq.{get_or-append_seam}
use Rattle.chan_values.specs.Tree.{Plain, Kind, Array, Keyed}
use Rattle.heap_meaning.specs.Values.{Value, Direct, Cell}
use Rattle.heap_meaning.specs.Keys.{keys_of}
use Rattle.heap_meaning.specs.Cells as c
use Rattle.heap_meaning.specs.Cells.{Content}
use Rattle.heap_meaning.specs.Heap.{Heap, content_at}
use Rattle.heap_meaning.specs.Reading.{children_in, HoldsItems}
use Rattle.copy_meaning.specs.Unfolding.{Form, Single, Holds, Chain, last, link}
use Rattle.copy_meaning.specs.Forms.{form_at, form_of_content}
use Rattle.copy_meaning.proofs.Unfolding.{chain_shorter}
use Rattle.brs_copy.specs.Marks.{is_marked_in, HoldsMarked, Marks}

-- the marks tell, below a place, where P holds
pub record Marked (P : ℕ → Type 0) (marks : List Bool) (place : ℕ) : Type 0 where
  pub long : length marks ≡ place
  pub tells : (k : ℕ) → k < place → IsTrue (slice_index_or marks k false) ↔ P k

pub marked_none : (P : ℕ → Type 0) → Marked P [] 0
marked_none P = record { long = refl; tells = λ k l. absurd (omega arith) }

below : (k n : ℕ) → k < n + 1 → (k < n) ⊎ (k ≡ n)
below k n l = search arith

pub marked_more : (P : ℕ → Type 0) (marks : List Bool) (place : ℕ) (b : Bool) → Marked P marks place → (IsTrue b ↔ P place) → Marked P (marks ++ b ∷ []) (place + 1)
marked_more P marks place b m e = record { long = (let a = length-append marks (b ∷ []) in let l = m.long in omega arith); tells = λ k l. go k (below k place l) }
  where
    go : (k : ℕ) → (k < place) ⊎ (k ≡ place) → IsTrue (slice_index_or (marks ++ b ∷ []) k false) ↔ P k
    go k (inl l) = subst (λ x. IsTrue x ↔ P k) (sym (get_or-append marks (b ∷ []) false k (let n = m.long in omega arith))) (m.tells k l)
    go k (inr q) =
        let p : get_or (marks ++ b ∷ []) k false ≡ b = ap (λ i. get_or (marks ++ b ∷ []) i false) (q ∙ sym m.long) ∙ get_or-append_seam marks b [] false in
        subst (λ x. IsTrue x ↔ P k) (sym p) (subst (λ i. IsTrue b ↔ P i) (sym q) e)

past : (marks : List Bool) (k : ℕ) → length marks ≤ k → get_or marks k false ≡ false
past [] k l = refl
past (b ∷ marks) zero l = absurd (omega arith)
past (b ∷ marks) (suc k) l = past marks k (omega arith)

marked_all : (P : ℕ → Type 0) (marks : List Bool) (n : ℕ) → Marked P marks n → ((k : ℕ) → n ≤ k → P k → ⊥) → (k : ℕ) → IsTrue (slice_index_or marks k false) ↔ P k
marked_all P marks n m h k = go (split k n)
  where
    split : (k n : ℕ) → (k < n) ⊎ (n ≤ k)
    split k n = search arith

    go : (k < n) ⊎ (n ≤ k) → IsTrue (slice_index_or marks k false) ↔ P k
    go (inl l) = m.tells k l
    go (inr l) = (λ t. let q = past marks k (let x = m.long in omega arith) in absurd (let r : false ≡ true = sym q ∙ t in cc), λ p. absurd (h k l p))

-- what a cell that holds items is
record Children (h : Heap) (k : ℕ) : Type 0 where
  kind : Kind
  is : form_at h (Cell k) ≡ Holds kind (children_in (content_at h (Cell k)))

children : (h : Heap) (k : ℕ) → HoldsItems (content_at h (Cell k)) → Children h k
children h k p = go (content_at h (Cell k)) refl p
  where
    go : (o : Option Content) → content_at h (Cell k) ≡ o → HoldsItems o → Children h k
    go None e p = absurd p
    go (Some (c.Text b)) e p = absurd p
    go (Some (c.Message m)) e p = absurd p
    go (Some (c.Array vs)) e p = record { kind = Array; is = ap form_of_content e ∙ ap (Holds Array) (sym (ap children_in e)) }
    go (Some (c.Pairs es)) e p = record { kind = Keyed (keys_of es); is = ap form_of_content e ∙ ap (Holds (Keyed (keys_of es))) (sym (ap children_in e)) }

holds_items : (o : Option Content) (k : Kind) (items : List Value) → form_of_content o ≡ Holds k items → HoldsItems o × (children_in o ≡ items)
holds_items None k items e = absurd cc
holds_items (Some (c.Text b)) k items e = absurd cc
holds_items (Some (c.Message m)) k items e = absurd cc
holds_items (Some (c.Array vs)) k items e = (tt, cc)
holds_items (Some (c.Pairs es)) k items e = (tt, cc)

has_items : (h : Heap) (k : ℕ) (i : ℕ) (w : Value) → slice_get (children_in (content_at h (Cell k))) i ≡ Some w → HoldsItems (content_at h (Cell k))
has_items h k i w e = go (content_at h (Cell k)) e
  where
    go : (o : Option Content) → slice_get (children_in o) i ≡ Some w → HoldsItems o
    go None e = absurd cc
    go (Some (c.Text b)) e = absurd cc
    go (Some (c.Message m)) e = absurd cc
    go (Some (c.Array vs)) e = tt
    go (Some (c.Pairs es)) e = tt

-- the first round
first_chain : (h : Heap) (k : ℕ) → HoldsItems (content_at h (Cell k)) ↔ Chain (form_at h) 1 (Cell k)
first_chain h k = (λ p. last (children h k p).is, λ c. go (Cell k) c refl)
  where
    go : (v : Value) → Chain (form_at h) 1 v → v ≡ Cell k → HoldsItems (content_at h (Cell k))
    go _ (last {kind = m} {items = items} e) q = (holds_items (content_at h (Cell k)) m items (sym (ap (form_at h) q) ∙ e)).0
    go _ (link {kind = m} {items = items} i e g c) q = (holds_items (content_at h (Cell k)) m items (sym (ap (form_at h) q) ∙ e)).0

-- no chain begins at a plain value
no_chain_at : (h : Heap) (n : ℕ) (v : Value) (p : Plain) → form_at h v ≡ Single p → Chain (form_at h) n v → ⊥
no_chain_at h _ _ p q (last e) = let r : Single p ≡ Holds _ _ = sym q ∙ e in absurd cc
no_chain_at h _ _ p q (link i e g c) = let r : Single p ≡ Holds _ _ = sym q ∙ e in absurd cc

pub value_marked : (h : Heap) (n : ℕ) (marks : List Bool) → Marks h n marks → (v : Value) → 0 < n → IsTrue (is_marked_in marks v) ↔ Chain (form_at h) n v
value_marked h n marks m (Direct x) l = (λ t. absurd cc, λ c. absurd (no_chain_at h n (Direct x) _ refl c))
value_marked h n marks m (Cell k) l = m k

-- a further round
next_chain : (h : Heap) (n : ℕ) (marks : List Bool) → 0 < n → Marks h n marks → (k : ℕ) → HoldsMarked h marks k ↔ Chain (form_at h) (n + 1) (Cell k)
next_chain h n marks l m k = (λ a. to a, λ c. back (n + 1) (Cell k) c refl refl)
  where
    to : HoldsMarked h marks k → Chain (form_at h) (n + 1) (Cell k)
    to a = subst (λ x. Chain (form_at h) x (Cell k)) (sym (add-one n)) (link a.index (children h k (has_items h k a.index a.item a.there)).is a.there ((value_marked h n marks m a.item l).0 a.marked))

    back : (x : ℕ) (v : Value) → Chain (form_at h) x v → x ≡ n + 1 → v ≡ Cell k → HoldsMarked h marks k
    back _ _ (last e) p q = absurd (omega arith)
    back _ _ (link {n = y} {b = b} {kind = m'} {items = items} i e g c) p q =
        let z = holds_items (content_at h (Cell k)) m' items (sym (ap (form_at h) q) ∙ e) in
        record {
          index = i;
          item = b;
          there = ap (λ s. slice_get s i) z.1 ∙ g;
          marked = (value_marked h n marks m b l).1 (subst (λ x. Chain (form_at h) x b) (let r : y ≡ n = omega arith in r) c);
        }

-- a longer chain begins with a shorter one
chain_least : {A : Type 0} (form : A → Form A) (m : ℕ) (a : A) → 0 < m → (n : ℕ) → m ≤ n → Chain form n a → Chain form m a
chain_least form m a p zero l c = absurd (omega arith)
chain_least form m a p (suc zero) l c = subst (λ x. Chain form x a) (let r : 1 ≡ m = omega arith in r) c
chain_least form m a p (suc (suc n)) l c = go (λ x. chain_least form m a p (suc n) x (chain_shorter form n a c)) (split m n l)
  where
    split : (m n : ℕ) → m ≤ suc (suc n) → (m ≤ suc n) ⊎ (m ≡ suc (suc n))
    split m n l = search arith

    go : (m ≤ suc n → Chain form m a) → (m ≤ suc n) ⊎ (m ≡ suc (suc n)) → Chain form m a
    go rec (inl x) = rec x
    go rec (inr q) = subst (λ x. Chain form x a) (sym q) c

-- none of the first items is marked
abbrev pub NoneYet : Heap → List Bool → ℕ → ℕ → Type 0
NoneYet h marks place at = (i : ℕ) (w : Value) → i < at → slice_get (children_in (content_at h (Cell place))) i ≡ Some w → is_marked_in marks w ≡ false

-- no cell stands from this place on
abbrev pub NoneFrom : Heap → ℕ → Type 0
NoneFrom h n = (k : ℕ) → n ≤ k → content_at h (Cell k) ≡ None

pub first_done : (h : Heap) (marks : List Bool) (n : ℕ) → Marked (λ k. HoldsItems (content_at h (Cell k))) marks n → NoneFrom h n → Marks h 1 marks
first_done h marks n m e k =
    let t = marked_all (λ k. HoldsItems (content_at h (Cell k))) marks n m (λ k l p. subst HoldsItems (e k l) p) k in
    let f = first_chain h k in
    (λ x. f.0 (t.0 x), λ x. t.1 (f.1 x))

pub next_done : (h : Heap) (old marks : List Bool) (place : ℕ) → Marked (HoldsMarked h old) marks place → NoneFrom h place → (n : ℕ) → 0 < n → Marks h n old → Marks h (n + 1) marks
next_done h old marks place m e n l p k =
    let t = marked_all (HoldsMarked h old) marks place m (λ k l x. subst HoldsItems (e k l) (has_items h k x.index x.item x.there)) k in
    let f = next_chain h n old l p k in
    (λ x. f.0 (t.0 x), λ x. t.1 (f.1 x))

pub no_longer : (h : Heap) (round count : ℕ) (marks : List Bool) (v : Value) → Marks h round marks → 0 < round → round ≤ count → is_marked_in marks v ≡ false → Chain (form_at h) count v → IsTrue false
no_longer h round count marks v m p l e c = sym e ∙ (value_marked h round marks m v p).1 (chain_least (form_at h) round v p count l c)
