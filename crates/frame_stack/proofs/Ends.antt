-- The end of a list.
use Rattle.std.proofs.Common.{◌≡◌, ℕ, zero, suc, ◌+◌, List, [], ◌∷◌, ◌++◌, length, take, drop, Some, Result, Ok, Err, refl, sym, ap, ◌∙◌, arith}
use Rattle.std.specs.Prelude.{reverse, OnOk}
use Rattle.std.proofs.lemmas.List.{reverse-append, take-append-drop, length-reverse, length-drop}
use Rattle.std.proofs.Math.Seq.{take-append_seam}

module _ {A : Type 0} (xs : List A) (at k : ℕ) (e : at + k ≡ length xs) where
  parts : reverse xs ≡ reverse (drop at xs) ++ reverse (take at xs)
  parts = ap reverse (sym (take-append-drop at xs)) ∙ reverse-append (take at xs) (drop at xs)

  size : length (reverse (drop at xs)) ≡ k
  size = let a = length-reverse (drop at xs) in let b = length-drop at xs in omega arith

  -- the items from a place on, the last first
  pub take_reverse : reverse (drop at xs) ≡ take k (reverse xs)
  take_reverse = sym (ap (take k) parts ∙ ap (λ n. take n (reverse (drop at xs) ++ reverse (take at xs))) (sym size) ∙ take-append_seam (reverse (drop at xs)) (reverse (take at xs)))

pub on_ok_then : {A E : Type 0} (r : Result A E) (P Q : Type 0) → (P → Q) → OnOk r P → OnOk r Q
on_ok_then (Ok x) P Q f h = f h
on_ok_then (Err x) P Q f h = tt
