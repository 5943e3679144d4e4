-- How counts and references change with occurrence cell.
use Rattle.std.proofs.Common.{◌≡◌, ◌≢◌, ℕ, zero, suc, ◌+◌, ◌<◌, ◌≤◌, List, [], ◌∷◌, ◌++◌, length, Option, None, refl, sym, ap, ◌∙◌, arith, get_or, ◌⊎◌, inl, inr}
use Rattle.std.specs.List.{sum_by}
use Rattle.std.proofs.lemmas.List.Sums.{sum_by-cons}
use Rattle.std.proofs.lemmas.Grind.{common_steps}
use Rattle.heap_meaning.specs.Values.{Cell, Value}
use Rattle.heap_meaning.specs.Cells.{HeldCell, Cells, occurrence, occurrences, inner_of, cell_at, item_references, ChangesCell}

pub occurrences_is_sum : (k : ℕ) (vs : List Value) → occurrences k vs ≡ sum_by (occurrence k) vs
occurrences_is_sum k [] = refl
occurrences_is_sum k (v ∷ vs) = ap (λ n. occurrence k v + n) (occurrences_is_sum k vs) ∙ sym (sum_by-cons (occurrence k) v vs)

pub occurrences_append : (k : ℕ) (xs ys : List Value) → occurrences k (xs ++ ys) ≡ occurrences k xs + occurrences k ys
occurrences_append k [] ys = omega arith
occurrences_append k (x ∷ xs) ys = let e = occurrences_append k xs ys in omega arith

-- an item counts
pub occurrences_item : (k i : ℕ) (vs : List Value) (d : Value) → i < length vs → occurrence k (get_or vs i d) ≤ occurrences k vs
occurrences_item k i [] d h = omega arith
occurrences_item k zero (v ∷ vs) d h = omega arith
occurrences_item k (suc i) (v ∷ vs) d h = let e = occurrences_item k i vs d (omega arith) in omega arith

suc_differs : (i j : ℕ) → i ≢ j → suc i ≢ suc j
suc_differs i j d e = d (omega arith)

zero_differs : (j : ℕ) → zero ≢ suc j
zero_differs j e = omega arith

suc_zero : (j : ℕ) → suc j ≢ zero
suc_zero j e = omega arith

pub references_none : (k : ℕ) (cells : Cells) → ((i : ℕ) → cell_at cells i ≡ None) → item_references k cells ≡ 0
references_none k [] h = refl
references_none k (c ∷ cells) h =
    let e = references_none k cells (λ i. h (suc i)) in
    let f : occurrences k (inner_of c) ≡ 0 = ap (λ x. occurrences k (inner_of x)) (h 0) in omega arith

pub references_same : (k : ℕ) (a b : Cells) → ((i : ℕ) → cell_at b i ≡ cell_at a i) → item_references k b ≡ item_references k a
references_same k [] b h = references_none k b h
references_same k (x ∷ a) [] h = sym (references_none k (x ∷ a) (λ i. sym (h i)))
references_same k (x ∷ a) (y ∷ b) h =
    let e = references_same k a b (λ i. h (suc i)) in
    let f : occurrences k (inner_of y) ≡ occurrences k (inner_of x) = ap (λ z. occurrences k (inner_of z)) (h 0) in omega arith

-- occurrence place changes
pub references_place : (k j : ℕ) (a b : Cells) → ((i : ℕ) → i ≢ j → cell_at b i ≡ cell_at a i) → item_references k b + occurrences k (inner_of (cell_at a j)) ≡ item_references k a + occurrences k (inner_of (cell_at b j))
references_place k zero [] [] h = refl
references_place k zero [] (y ∷ b) h = let e = references_none k b (λ i. h (suc i) (suc_zero i)) in omega arith
references_place k zero (x ∷ a) [] h = let e = references_none k a (λ i. sym (h (suc i) (suc_zero i))) in omega arith
references_place k zero (x ∷ a) (y ∷ b) h = let e = references_same k a b (λ i. h (suc i) (suc_zero i)) in omega arith
references_place k (suc j) [] [] h = refl
references_place k (suc j) [] (y ∷ b) h =
    let e = references_place k j [] b (λ i d. h (suc i) (suc_differs i j d)) in
    let f : occurrences k (inner_of y) ≡ 0 = ap (λ z. occurrences k (inner_of z)) (h 0 (zero_differs j)) in omega arith
references_place k (suc j) (x ∷ a) [] h =
    let e = references_place k j a [] (λ i d. h (suc i) (suc_differs i j d)) in
    let f : 0 ≡ occurrences k (inner_of x) = ap (λ z. occurrences k (inner_of z)) (h 0 (zero_differs j)) in omega arith
references_place k (suc j) (x ∷ a) (y ∷ b) h =
    let e = references_place k j a b (λ i d. h (suc i) (suc_differs i j d)) in
    let f : occurrences k (inner_of y) ≡ occurrences k (inner_of x) = ap (λ z. occurrences k (inner_of z)) (h 0 (zero_differs j)) in omega arith

pub references_sets : (k j : ℕ) (a b : Cells) (x : Option HeldCell) → ChangesCell a b j x → item_references k b + occurrences k (inner_of (cell_at a j)) ≡ item_references k a + occurrences k (inner_of x)
references_sets k j a b x s = let e = references_place k j a b s.others in rw s.changed at e

-- what is held by a cell is among the references
pub references_cell : (k j : ℕ) (cells : Cells) → occurrences k (inner_of (cell_at cells j)) ≤ item_references k cells
references_cell k j [] = omega arith
references_cell k zero (c ∷ cells) = omega arith
references_cell k (suc j) (c ∷ cells) = let e = references_cell k j cells in omega arith

pub occurrence_self : (k : ℕ) → occurrence k (Cell k) ≡ 1
occurrence_self k = grind (arith, common_steps)

pub occurrence_other : (k j : ℕ) → k ≢ j → occurrence k (Cell j) ≡ 0
occurrence_other k j d = grind (arith, common_steps)

pub same_or : (k j : ℕ) → (k ≡ j) ⊎ (k ≢ j)
same_or zero zero = inl refl
same_or zero (suc j) = inr (zero_differs j)
same_or (suc k) zero = inr (suc_zero k)
same_or (suc k) (suc j) = elim (same_or k j) [ inl e ↦ inl (ap suc e) | inr d ↦ inr (suc_differs k j d) ]
