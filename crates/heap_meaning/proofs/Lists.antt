-- What a change of a list does to what its values stand for, and to how often they name a cell.
use Rattle.std.proofs.Common.{◌≡◌, ℕ, zero, suc, ◌+◌, ◌-◌, ◌<◌, ◌≤◌, List, [], ◌∷◌, ◌++◌, length, map, Option, Some, refl, sym, ap, ◌∙◌, subst, arith, ◌⊎◌, inl, inr}
use Rattle.std.specs.Prelude.{slice_get, slice_set, slice_index_or, replicate, take, drop}
use Rattle.std.specs.List.{insert, remove}
use Rattle.std.proofs.lemmas.Grind.{common_steps}
use Rattle.std.proofs.lemmas.List.{take-append-drop}
use Rattle.heap_meaning.specs.Values.{Value, filler}
use Rattle.heap_meaning.specs.Keys.{placed}
use Rattle.heap_meaning.specs.Cells.{occurrence, occurrences}
use Rattle.heap_meaning.proofs.Counts.{occurrences_append}

pub map_set : {A B : Type 0} (f : A → B) (vs : List A) (i : ℕ) (w : A) → map f (slice_set vs i w) ≡ slice_set (map f vs) i (f w)
map_set f [] i w = refl
map_set f (v ∷ vs) zero w = refl
map_set f (v ∷ vs) (suc i) w = ap (λ r. f v ∷ r) (map_set f vs i w)

pub map_length : {A B : Type 0} (f : A → B) (vs : List A) → length (map f vs) ≡ length vs
map_length f [] = refl
map_length f (v ∷ vs) = ap suc (map_length f vs)

pub map_replicate : {A B : Type 0} (f : A → B) (n : ℕ) (a : A) → map f (replicate n a) ≡ replicate n (f a)
map_replicate f zero a = refl
map_replicate f (suc n) a = ap (λ r. f a ∷ r) (map_replicate f n a)

pub map_append : {A B : Type 0} (f : A → B) (xs ys : List A) → map f (xs ++ ys) ≡ map f xs ++ map f ys
map_append f [] ys = refl
map_append f (x ∷ xs) ys = ap (λ r. f x ∷ r) (map_append f xs ys)

map_take : {A B : Type 0} (f : A → B) (i : ℕ) (xs : List A) → map f (take i xs) ≡ take i (map f xs)
map_take f zero xs = refl
map_take f (suc i) [] = refl
map_take f (suc i) (x ∷ xs) = ap (λ r. f x ∷ r) (map_take f i xs)

map_drop : {A B : Type 0} (f : A → B) (i : ℕ) (xs : List A) → map f (drop i xs) ≡ drop i (map f xs)
map_drop f zero xs = refl
map_drop f (suc i) [] = refl
map_drop f (suc i) (x ∷ xs) = map_drop f i xs

pub map_insert : {A B : Type 0} (f : A → B) (vs : List A) (i : ℕ) (w : A) → map f (insert vs i w) ≡ insert (map f vs) i (f w)
map_insert f vs i w =
    map_append f (take i vs) (w ∷ drop i vs) ∙ ap (λ r. r ++ f w ∷ map f (drop i vs)) (map_take f i vs) ∙ ap (λ r. take i (map f vs) ++ f w ∷ r) (map_drop f i vs)

pub map_remove : {A B : Type 0} (f : A → B) (vs : List A) (i : ℕ) → map f (remove vs i) ≡ remove (map f vs) i
map_remove f vs i =
    map_append f (take i vs) (drop (suc i) vs) ∙ ap (λ r. r ++ map f (drop (suc i) vs)) (map_take f i vs) ∙ ap (λ r. take i (map f vs) ++ r) (map_drop f (suc i) vs)

pub placed_in : {A : Type 0} (gap : A) (items : List A) (i : ℕ) (w : A) → i < length items → placed gap items i w ≡ slice_set items i w
placed_in gap items i w h = grind (arith, common_steps)

pub placed_past : {A : Type 0} (gap : A) (items : List A) (i : ℕ) (w : A) → length items ≤ i → placed gap items i w ≡ items ++ replicate (i - length items) gap ++ w ∷ []
placed_past gap items i w h = grind (arith, common_steps)

pub lt_or : (i n : ℕ) → (i < n) ⊎ (n ≤ i)
lt_or i zero = inr (omega arith)
lt_or zero (suc n) = inl (omega arith)
lt_or (suc i) (suc n) = elim (lt_or i n) [ inl h ↦ inl (omega arith) | inr h ↦ inr (omega arith) ]

pub map_placed : {A B : Type 0} (f : A → B) (gap : A) (vs : List A) (i : ℕ) (w : A) → map f (placed gap vs i w) ≡ placed (f gap) (map f vs) i (f w)
map_placed f gap vs i w = elim (lt_or i (length vs)) [ inl h ↦ near h | inr h ↦ far h ]
  where
    len : length (map f vs) ≡ length vs
    len = map_length f vs

    near : i < length vs → map f (placed gap vs i w) ≡ placed (f gap) (map f vs) i (f w)
    near h = ap (map f) (placed_in gap vs i w h) ∙ map_set f vs i w ∙ sym (placed_in (f gap) (map f vs) i (f w) (let l = len in omega arith))

    far : length vs ≤ i → map f (placed gap vs i w) ≡ placed (f gap) (map f vs) i (f w)
    far h =
        ap (map f) (placed_past gap vs i w h) ∙ map_append f (vs ++ replicate (i - length vs) gap) (w ∷ [])
        ∙ ap (λ r. r ++ f w ∷ []) (map_append f vs (replicate (i - length vs) gap) ∙ ap (λ r. map f vs ++ r) (map_replicate f (i - length vs) gap ∙ ap (λ n. replicate (i - n) (f gap)) (sym len)))
        ∙ sym (placed_past (f gap) (map f vs) i (f w) (let l = len in omega arith))

pub occurrences_set : (k : ℕ) (vs : List Value) (i : ℕ) (w d : Value) → i < length vs → occurrences k (slice_set vs i w) + occurrence k (slice_index_or vs i d) ≡ occurrences k vs + occurrence k w
occurrences_set k [] i w d h = absurd (omega arith)
occurrences_set k (v ∷ vs) zero w d h = omega arith
occurrences_set k (v ∷ vs) (suc i) w d h = let r = occurrences_set k vs i w d (omega arith) in omega arith

occurrences_replicate : (k n : ℕ) → occurrences k (replicate n filler) ≡ 0
occurrences_replicate k zero = refl
occurrences_replicate k (suc n) = let r = occurrences_replicate k n in omega arith

pub past : {A : Type 0} (vs : List A) (i : ℕ) (d : A) → length vs ≤ i → slice_index_or vs i d ≡ d
past [] i d h = refl
past (v ∷ vs) zero d h = absurd (omega arith)
past (v ∷ vs) (suc i) d h = past vs i d (omega arith)

pub occurrences_placed : (k : ℕ) (vs : List Value) (i : ℕ) (w : Value) → occurrences k (placed filler vs i w) + occurrence k (slice_index_or vs i filler) ≡ occurrences k vs + occurrence k w
occurrences_placed k vs i w = elim (lt_or i (length vs)) [ inl h ↦ let e : occurrences k (placed filler vs i w) ≡ occurrences k (slice_set vs i w) = ap (occurrences k) (placed_in filler vs i w h) in let r = occurrences_set k vs i w filler h in omega arith | inr h ↦ far h ]
  where
    far : length vs ≤ i → occurrences k (placed filler vs i w) + occurrence k (slice_index_or vs i filler) ≡ occurrences k vs + occurrence k w
    far h =
        let e : occurrences k (placed filler vs i w) ≡ occurrences k (vs ++ replicate (i - length vs) filler ++ w ∷ []) = ap (occurrences k) (placed_past filler vs i w h) in
        let a = occurrences_append k (vs ++ replicate (i - length vs) filler) (w ∷ []) in
        let b = occurrences_append k vs (replicate (i - length vs) filler) in
        let c = occurrences_replicate k (i - length vs) in
        let d : occurrence k (slice_index_or vs i filler) ≡ 0 = ap (occurrence k) (past vs i filler h) in omega arith

pub occurrences_insert : (k : ℕ) (vs : List Value) (i : ℕ) (w : Value) → occurrences k (insert vs i w) ≡ occurrences k vs + occurrence k w
occurrences_insert k vs i w =
    let a = occurrences_append k (take i vs) (w ∷ drop i vs) in
    let b : occurrences k vs ≡ occurrences k (take i vs) + occurrences k (drop i vs) = ap (occurrences k) (sym (take-append-drop i vs)) ∙ occurrences_append k (take i vs) (drop i vs) in omega arith

drop_there : {A : Type 0} (vs : List A) (i : ℕ) (w : A) → slice_get vs i ≡ Some w → drop i vs ≡ w ∷ drop (suc i) vs
drop_there [] i w e = absurd cc
drop_there (v ∷ vs) zero w e = let f : v ≡ w = cc in ap (λ x. x ∷ vs) f
drop_there (v ∷ vs) (suc i) w e = drop_there vs i w e

pub occurrences_remove : (k : ℕ) (vs : List Value) (i : ℕ) (w : Value) → slice_get vs i ≡ Some w → occurrences k (remove vs i) + occurrence k w ≡ occurrences k vs
occurrences_remove k vs i w e =
    let a = occurrences_append k (take i vs) (drop (suc i) vs) in
    let b : occurrences k vs ≡ occurrences k (take i vs) + occurrences k (drop i vs) = ap (occurrences k) (sym (take-append-drop i vs)) ∙ occurrences_append k (take i vs) (drop i vs) in
    let c : occurrences k (drop i vs) ≡ occurrences k (w ∷ drop (suc i) vs) = ap (occurrences k) (drop_there vs i w e) in omega arith
