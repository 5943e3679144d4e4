-- What holds of each member of a list.
use mathlib.Core.List.{reverse_aux}
use Rattle.std.proofs.Common.{ℕ, zero, suc, ◌-◌, List, [], ◌∷◌, ◌++◌}
use Rattle.std.specs.Prelude.{Bool, true, false, reverse, length, map, cond, take, drop, replicate, slice_get, slice_set, nat_lt}
use Rattle.std.specs.List.{filter, remove}
use Rattle.heap_meaning.specs.Keys.{placed}
use Rattle.brs_meaning.specs.Nodes.{Each, IfSome}

module _ {A : Type 0} (P : A → Type 0) where
  pub each_append : (xs ys : List A) → Each P xs → Each P ys → Each P (xs ++ ys)
  each_append [] ys h k = k
  each_append (x ∷ xs) ys (p, h) k = (p, each_append xs ys h k)

  pub each_onto : (xs ys : List A) → Each P xs → Each P ys → Each P (reverse_aux xs ys)
  each_onto [] ys h k = k
  each_onto (x ∷ xs) ys (p, h) k = each_onto xs (x ∷ ys) h (p, k)

  pub each_reverse : (xs : List A) → Each P xs → Each P (reverse xs)
  each_reverse xs h = each_onto xs [] h tt

  pub each_get : (xs : List A) (i : ℕ) → Each P xs → IfSome P (slice_get xs i)
  each_get [] i h = tt
  each_get (x ∷ xs) zero (p, h) = p
  each_get (x ∷ xs) (suc i) (p, h) = each_get xs i h

  pub each_set : (xs : List A) (i : ℕ) (y : A) → P y → Each P xs → Each P (slice_set xs i y)
  each_set [] i y q h = tt
  each_set (x ∷ xs) zero y q (p, h) = (q, h)
  each_set (x ∷ xs) (suc i) y q (p, h) = (p, each_set xs i y q h)

  pub each_take : (i : ℕ) (xs : List A) → Each P xs → Each P (take i xs)
  each_take zero xs h = tt
  each_take (suc i) [] h = tt
  each_take (suc i) (x ∷ xs) (p, h) = (p, each_take i xs h)

  pub each_drop : (i : ℕ) (xs : List A) → Each P xs → Each P (drop i xs)
  each_drop zero xs h = h
  each_drop (suc i) [] h = tt
  each_drop (suc i) (x ∷ xs) (p, h) = each_drop i xs h

  pub each_remove : (xs : List A) (i : ℕ) → Each P xs → Each P (remove xs i)
  each_remove xs i h = each_append (take i xs) (drop (suc i) xs) (each_take i xs h) (each_drop (suc i) xs h)

  pub each_replicate : (n : ℕ) (x : A) → P x → Each P (replicate n x)
  each_replicate zero x p = tt
  each_replicate (suc n) x p = (p, each_replicate n x p)

  pub each_filter : (p : A → Bool) (xs : List A) → Each P xs → Each P (filter p xs)
  each_filter p [] h = tt
  each_filter p (x ∷ xs) (q, h) = kept (p x) (each_filter p xs h)
    where
      kept : (b : Bool) → Each P (filter p xs) → Each P (cond b (x ∷ filter p xs) (filter p xs))
      kept true k = (q, k)
      kept false k = k

  pub each_placed : (gap : A) (xs : List A) (i : ℕ) (x : A) → P gap → P x → Each P xs → Each P (placed gap xs i x)
  each_placed gap xs i x g p h = either (nat_lt i (length xs))
    where
      either : (b : Bool) → Each P (cond b (slice_set xs i x) (xs ++ replicate (i - length xs) gap ++ x ∷ []))
      either true = each_set xs i x p h
      either false = each_append (xs ++ replicate (i - length xs) gap) (x ∷ []) (each_append xs (replicate (i - length xs) gap) h (each_replicate (i - length xs) gap g)) (p, tt)

pub each_map : {A B : Type 0} (P : B → Type 0) (f : A → B) (xs : List A) → Each (λ x. P (f x)) xs → Each P (map f xs)
each_map P f [] h = tt
each_map P f (x ∷ xs) (p, h) = (p, each_map P f xs h)
