-- The list of all registrations, read as what each field has.
use Rattle.std.proofs.Common.{◌≡◌, ℕ, Bool, true, false, cond, ◌&&◌, ◌||◌, not, ◌==◌, List, [], ◌∷◌, ◌++◌, map, refl, ap, sym, ◌∙◌, if◌then◌else◌}
use Rattle.std.specs.Prelude.{filter}
use Rattle.std.specs.Str.{bytes_eq}
use Rattle.std.proofs.lemmas.Bool.{eqb-true}
use Rattle.std.proofs.lemmas.Slice.Eq.{bytes_eq-Decides}
use Rattle.field_observers.specs.declared.target.Registration.{Registration}
use Rattle.field_observers.specs.InTime.{Observer, in_time, stays}
use Rattle.field_observers.specs.Registered.{registered, unregistered, is_place}

abbrev shown : Observer → Registration
shown o = o.registration

one_more : (n : ℕ) (f : List ℕ) (all : List Observer) (o : Observer)
    → in_time (all ++ o ∷ []) n f ≡ (if is_place o.node o.field n f then in_time all n f ++ o.registration ∷ [] else in_time all n f)
one_more n f [] o = choose (is_place o.node o.field n f)
  where
    choose : (b : Bool) → map (λ p. p.registration) (cond b (o ∷ []) []) ≡ (if b then o.registration ∷ [] else [])
    choose true = refl
    choose false = refl
one_more n f (p ∷ all) o = choose (is_place p.node p.field n f) (is_place o.node o.field n f) (one_more n f all o)
  where
    choose : (b c : Bool) → in_time (all ++ o ∷ []) n f ≡ (if c then in_time all n f ++ o.registration ∷ [] else in_time all n f)
        → map (λ q. q.registration) (cond b (p ∷ filter (λ q. is_place q.node q.field n f) (all ++ o ∷ [])) (filter (λ q. is_place q.node q.field n f) (all ++ o ∷ [])))
        ≡ (if c then map (λ q. q.registration) (cond b (p ∷ filter (λ q. is_place q.node q.field n f) all) (filter (λ q. is_place q.node q.field n f) all)) ++ o.registration ∷ []
        else map (λ q. q.registration) (cond b (p ∷ filter (λ q. is_place q.node q.field n f) all) (filter (λ q. is_place q.node q.field n f) all)))
    choose true true e = ap (λ rs. p.registration ∷ rs) e
    choose true false e = ap (λ rs. p.registration ∷ rs) e
    choose false true e = e
    choose false false e = e

pub comes_last : (all : List Observer) (o : Observer) (n : ℕ) (f : List ℕ) → in_time (all ++ o ∷ []) n f ≡ registered o.node o.field o.registration (in_time all) n f
comes_last all o n f = one_more n f all o

-- two places of one field
same_place : (node : ℕ) (field : List ℕ) (m : ℕ) (g : List ℕ) (n : ℕ) (f : List ℕ) → is_place m g n f ≡ true → is_place node field m g ≡ is_place node field n f
same_place node field m g n f e =
    let parts = both (n == m) (bytes_eq g f) e in
    let nodes : n ≡ m = eqb-true n m parts.0 in
    let fields : g ≡ f = (bytes_eq-Decides g f).0 parts.1 in
    ap (λ k. is_place node field k g) (sym nodes) ∙ ap (λ h. is_place node field n h) fields
  where
    both : (a b : Bool) → (a && b) ≡ true → (a ≡ true) × (b ≡ true)
    both true b h = (refl, h)
    both false b h = absurd cc

module _ (q : Observer → Bool) (o : Observer) where
  shown_first : (F : List Observer) → q o ≡ true → map shown (filter q (o ∷ F)) ≡ o.registration ∷ map shown (filter q F)
  shown_first F e = ap (λ b. map shown (cond b (o ∷ filter q F) (filter q F))) e

  hidden_first : (F : List Observer) → q o ≡ false → map shown (filter q (o ∷ F)) ≡ map shown (filter q F)
  hidden_first F e = ap (λ b. map shown (cond b (o ∷ filter q F) (filter q F))) e

abbrev fixed_ones : Bool → List Registration → List Registration
fixed_ones b rs = if b then filter (λ p. p.fixed) rs else rs

-- one observer more in front, where it is one of the field's
here_step : (q s : Observer → Bool) (o : Observer) (all : List Observer) (b : Bool) → q o ≡ true → s o ≡ (not b || o.registration.fixed)
    → map shown (filter q (filter s all)) ≡ fixed_ones b (map shown (filter q all))
    → map shown (filter q (filter s (o ∷ all))) ≡ fixed_ones b (map shown (filter q (o ∷ all)))
here_step q s o all b is stays_so rest =
    ap (λ v. map shown (filter q (cond v (o ∷ filter s all) (filter s all)))) stays_so
    ∙ choose b o.registration.fixed refl rest
    ∙ sym (ap (fixed_ones b) (shown_first q o all is))
  where
    choose : (v x : Bool) → o.registration.fixed ≡ x → map shown (filter q (filter s all)) ≡ fixed_ones v (map shown (filter q all))
        → map shown (filter q (cond (not v || x) (o ∷ filter s all) (filter s all))) ≡ fixed_ones v (o.registration ∷ map shown (filter q all))
    choose true true e r = shown_first q o (filter s all) is ∙ ap (λ rs. o.registration ∷ rs) r
        ∙ sym (ap (λ y. cond y (o.registration ∷ filter (λ p. p.fixed) (map shown (filter q all))) (filter (λ p. p.fixed) (map shown (filter q all)))) e)
    choose true false e r = r
        ∙ sym (ap (λ y. cond y (o.registration ∷ filter (λ p. p.fixed) (map shown (filter q all))) (filter (λ p. p.fixed) (map shown (filter q all)))) e)
    choose false x e r = shown_first q o (filter s all) is ∙ ap (λ rs. o.registration ∷ rs) r

-- the same where it is one of another field's
elsewhere_step : (q s : Observer → Bool) (o : Observer) (all : List Observer) (b : Bool) → q o ≡ false
    → map shown (filter q (filter s all)) ≡ fixed_ones b (map shown (filter q all))
    → map shown (filter q (filter s (o ∷ all))) ≡ fixed_ones b (map shown (filter q (o ∷ all)))
elsewhere_step q s o all b is rest = choose (s o) ∙ rest ∙ sym (ap (fixed_ones b) (hidden_first q o all is))
  where
    choose : (v : Bool) → map shown (filter q (cond v (o ∷ filter s all) (filter s all))) ≡ map shown (filter q (filter s all))
    choose true = hidden_first q o (filter s all) is
    choose false = refl

pub drops : (node : ℕ) (field : List ℕ) (n : ℕ) (f : List ℕ) (all : List Observer) → in_time (filter (stays node field) all) n f ≡ unregistered node field (in_time all) n f
drops node field n f [] = choose (is_place node field n f)
  where
    choose : (b : Bool) → [] ≡ fixed_ones b []
    choose true = refl
    choose false = refl
drops node field n f (o ∷ all) = choose (is_place o.node o.field n f) refl (drops node field n f all)
  where
    choose : (v : Bool) → is_place o.node o.field n f ≡ v → in_time (filter (stays node field) all) n f ≡ unregistered node field (in_time all) n f
        → in_time (filter (stays node field) (o ∷ all)) n f ≡ unregistered node field (in_time (o ∷ all)) n f
    choose true e rest = here_step (λ p. is_place p.node p.field n f) (stays node field) o all (is_place node field n f) e
        (ap (λ b. not b || o.registration.fixed) (same_place node field o.node o.field n f e)) rest
    choose false e rest = elsewhere_step (λ p. is_place p.node p.field n f) (stays node field) o all (is_place node field n f) e rest
