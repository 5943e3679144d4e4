-- What is put behind an order.
use Rattle.std.proofs.Common.{◌≡◌, ℕ, zero, suc, true, false, if◌then◌else◌, List, [], ◌∷◌, ◌++◌, fold, refl, ap, ◌∙◌}
use Rattle.std.specs.List.{Contains}
use Rattle.component_cycles.proofs.Members.{first_member, later_member}
use Rattle.kind_order.specs.Order.{is_listed, put, order_of_first}

module _ (named : ℕ → List ℕ) where
  pub put_listed : (depth : ℕ) (order : List ℕ) (place : ℕ) → is_listed order place ≡ true → put depth named order place ≡ order
  put_listed zero order place e = refl
  put_listed (suc d) order place e = ap (λ b. if b then order else fold (put d named) order (named place) ++ place ∷ []) e

  pub put_new : (d : ℕ) (order : List ℕ) (place : ℕ) → is_listed order place ≡ false → put (suc d) named order place ≡ fold (put d named) order (named place) ++ place ∷ []
  put_new d order place e = ap (λ b. if b then order else fold (put d named) order (named place) ++ place ∷ []) e

  pub fold_listed : (depth : ℕ) (order places : List ℕ) → ((q : ℕ) → Contains places q → is_listed order q ≡ true) → fold (put depth named) order places ≡ order
  fold_listed depth order [] h = refl
  fold_listed depth order (p ∷ ps) h =
      ap (λ o. fold (put depth named) o ps) (put_listed depth order p (h p (first_member p ps)))
      ∙ fold_listed depth order ps (λ q m. h q (later_member p q ps m))

-- ---- the same, where the same places are named

fold_same : (h k : List ℕ → ℕ → List ℕ) → ((order : List ℕ) (place : ℕ) → h order place ≡ k order place) → (order places : List ℕ) → fold h order places ≡ fold k order places
fold_same h k same order [] = refl
fold_same h k same order (p ∷ ps) = fold_same h k same (h order p) ps ∙ ap (λ o. fold k o ps) (same order p)

module _ (f g : ℕ → List ℕ) (same : (place : ℕ) → f place ≡ g place) where
  put_same : (depth : ℕ) (order : List ℕ) (place : ℕ) → put depth f order place ≡ put depth g order place
  put_same zero order place = refl
  put_same (suc d) order place =
      ap (λ l. if is_listed order place then order else l ++ place ∷ []) (fold_same (put d f) (put d g) (λ o p. put_same d o p) order (f place) ∙ ap (fold (put d g) order) (same place))

  pub order_same : (depth n : ℕ) → order_of_first depth f n ≡ order_of_first depth g n
  order_same depth zero = refl
  order_same depth (suc n) = put_same depth (order_of_first depth f n) n ∙ ap (λ o. put depth g o n) (order_same depth n)
