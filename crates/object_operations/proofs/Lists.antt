-- Lists of which a part is written, left out or added.
use Rattle.std.proofs.Common.{◌≡◌, ℕ, zero, suc, ◌+◌, List, [], ◌∷◌, ◌++◌, length, take, Some, None, refl, sym, ap}
use Rattle.std.specs.Prelude.{slice_get, slice_set}
use Rattle.std.specs.List.{remove}
use Rattle.heap_meaning.specs.Values.{StoreValue}
use Rattle.object_operations.specs.Arrays.{item_list}

pub set_same : {A : Type 0} (xs : List A) (i : ℕ) (y : A) → slice_get xs i ≡ Some y → slice_set xs i y ≡ xs
set_same [] i y e = refl
set_same (x ∷ xs) zero y e = let f : x ≡ y = cc in ap (λ z. z ∷ xs) (sym f)
set_same (x ∷ xs) (suc i) y e = ap (λ r. x ∷ r) (set_same xs i y e)

pub set_set : {A : Type 0} (xs : List A) (i : ℕ) (y z : A) → slice_set (slice_set xs i y) i z ≡ slice_set xs i z
set_set [] i y z = refl
set_set (x ∷ xs) zero y z = refl
set_set (x ∷ xs) (suc i) y z = ap (λ r. x ∷ r) (set_set xs i y z)

pub remove_past : {A : Type 0} (xs : List A) (i : ℕ) → slice_get xs i ≡ None → remove xs i ≡ xs
remove_past [] zero e = refl
remove_past [] (suc i) e = refl
remove_past (x ∷ xs) zero e = absurd cc
remove_past (x ∷ xs) (suc i) e = ap (λ r. x ∷ r) (remove_past xs i e)

pub remove_last : {A : Type 0} (xs : List A) (k : ℕ) → remove (take (suc k) xs) k ≡ take k xs
remove_last [] zero = refl
remove_last [] (suc k) = refl
remove_last (x ∷ xs) zero = refl
remove_last (x ∷ xs) (suc k) = ap (λ r. x ∷ r) (remove_last xs k)

pub take_whole : {A : Type 0} (xs : List A) → take (length xs) xs ≡ xs
take_whole [] = refl
take_whole (x ∷ xs) = ap (λ r. x ∷ r) (take_whole xs)

pub take_more : (xs : List StoreValue) (k : ℕ) → take (suc k) xs ≡ take k xs ++ item_list (slice_get xs k)
take_more [] zero = refl
take_more [] (suc k) = refl
take_more (x ∷ xs) zero = refl
take_more (x ∷ xs) (suc k) = ap (λ r. x ∷ r) (take_more xs k)

pub append_none : {A : Type 0} (xs : List A) → xs ++ [] ≡ xs
append_none [] = refl
append_none (x ∷ xs) = ap (λ r. x ∷ r) (append_none xs)
