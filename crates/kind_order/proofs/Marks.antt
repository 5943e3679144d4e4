-- Marks of a walk, and the next place that isn't marked.
use Rattle.std.proofs.Common.{◌≡◌, ◌≢◌, ℕ, zero, suc, ◌<◌, ◌≤◌, Bool, true, false, not, cond, if◌then◌else◌, ◌⊎◌, inl, inr, List, [], ◌∷◌, ◌++◌, Some, None, length, get_or, refl, sym, ap, ◌∙◌, arith, subst}
use Rattle.std.specs.List.{Contains}
use Rattle.std.proofs.Math.ListN.{set, replicate}
use Rattle.std.proofs.lemmas.List.{get_or-set_same, get_or-set_other, get_or-replicate, length-replicate}
use Rattle.std.proofs.lemmas.List.Sums.{sum_by-set, count_by-le-length}
use Rattle.component_cycles.specs.Search.{unmarked}
use Rattle.component_cycles.proofs.Members.{no_member, member_cases}
use Rattle.component_cycles.proofs.Searches.{same_or_not}
use Rattle.kind_order.specs.Walk.{is_marked, next_unmarked, AreMarked}

-- ---- one mark more

off_is_there : (marks : List Bool) (place : ℕ) → is_marked marks place ≡ false → (place < length marks) × (get_or marks place false ≡ false)
off_is_there [] place e = absurd cc
off_is_there (b ∷ bs) zero e = (omega arith, e)
off_is_there (b ∷ bs) (suc k) e = let r = off_is_there bs k e in let l = r.0 in (omega arith, r.1)

abbrev weight : Bool → ℕ
weight b = cond (not b) 1 0

pub one_fewer : (marks : List Bool) (place : ℕ) → is_marked marks place ≡ false → suc (unmarked (set marks place true)) ≡ unmarked marks
one_fewer marks place off =
    let r = off_is_there marks place off in
    let l = r.0 in
    let s = sum_by-set weight marks place true false l in
    let z = ap weight r.1 in
    omega (arith, s, z)

pub off_below : (marks : List Bool) (place : ℕ) → is_marked marks place ≡ false → place < length marks
off_below marks place off = (off_is_there marks place off).0

pub at_most_all : (marks : List Bool) → unmarked marks ≤ length marks
at_most_all marks = count_by-le-length not marks

module _ (marks : List Bool) (place : ℕ) (there : place < length marks) where
  pub marked_here : is_marked (set marks place true) place ≡ true
  marked_here = get_or-set_same marks place true true there

  pub marked_still : (p : ℕ) → is_marked marks p ≡ true → is_marked (set marks place true) p ≡ true
  marked_still p m = go (same_or_not p place)
    where
      go : (p ≡ place) ⊎ (p ≢ place) → is_marked (set marks place true) p ≡ true
      go (inl e) = subst (λ k. is_marked (set marks place true) k ≡ true) (sym e) marked_here
      go (inr n) = get_or-set_other marks place p true true n ∙ m

  pub marked_before : (p : ℕ) → is_marked (set marks place true) p ≡ true → (place ≡ p) ⊎ (is_marked marks p ≡ true)
  marked_before p m = go (same_or_not p place)
    where
      go : (p ≡ place) ⊎ (p ≢ place) → (place ≡ p) ⊎ (is_marked marks p ≡ true)
      go (inl e) = inl (sym e)
      go (inr n) = inr (sym (get_or-set_other marks place p true true n) ∙ m)

-- ---- no marks

pub none_marked : (count : ℕ) → AreMarked count (replicate count false) []
none_marked count = record { size = length-replicate count false; inside = λ p m. absurd (no_member p m); same = λ p l. get_or-replicate count p false true l }

-- ---- the next that isn't marked

pub none_left : (marks : List Bool) (places : List ℕ) → next_unmarked marks places ≡ None → (q : ℕ) → Contains places q → is_marked marks q ≡ true
none_left marks [] e q m = absurd (no_member q m)
none_left marks (p ∷ ps) e q m = go (λ t n. none_left marks ps t q n) (is_marked marks p) refl e (member_cases p q ps m)
  where
    go : (next_unmarked marks ps ≡ None → Contains ps q → is_marked marks q ≡ true) → (b : Bool) → is_marked marks p ≡ b → (if b then next_unmarked marks ps else Some (p, ps)) ≡ None → (p ≡ q) ⊎ Contains ps q → is_marked marks q ≡ true
    go r true s t (inl h) = subst (λ k. is_marked marks k ≡ true) h s
    go r true s t (inr n) = r t n
    go r false s t c = absurd cc

-- the places before the next are marked
pub record NextAt (marks : List Bool) (places : List ℕ) (place : ℕ) (behind : List ℕ) : Type 0 where
  pub skipped : List ℕ
  pub split : places ≡ skipped ++ place ∷ behind
  pub all : (q : ℕ) → Contains skipped q → is_marked marks q ≡ true
  pub off : is_marked marks place ≡ false

pub next_is : (marks : List Bool) (places : List ℕ) (place : ℕ) (behind : List ℕ) → next_unmarked marks places ≡ Some (place, behind) → NextAt marks places place behind
next_is marks [] place behind e = absurd cc
next_is marks (p ∷ ps) place behind e = go (λ t. next_is marks ps place behind t) (is_marked marks p) refl e
  where
    first : (a b : ℕ × List ℕ) → Some a ≡ Some b → a ≡ b
    first a b h = cc

    later : is_marked marks p ≡ true → NextAt marks ps place behind → NextAt marks (p ∷ ps) place behind
    later s r = record {
      skipped = p ∷ r.skipped;
      split = ap (λ l. p ∷ l) r.split;
      all = λ q m. all q (member_cases p q r.skipped m);
      off = r.off;
    }
      where
        all : (q : ℕ) → (p ≡ q) ⊎ Contains r.skipped q → is_marked marks q ≡ true
        all q (inl h) = subst (λ k. is_marked marks k ≡ true) h s
        all q (inr n) = r.all q n

    go : (next_unmarked marks ps ≡ Some (place, behind) → NextAt marks ps place behind) → (b : Bool) → is_marked marks p ≡ b → (if b then next_unmarked marks ps else Some (p, ps)) ≡ Some (place, behind) → NextAt marks (p ∷ ps) place behind
    go r true s t = later s (r t)
    go r false s t = let same = first (p, ps) (place, behind) t in record {
      skipped = [];
      split = ap (λ (w : ℕ × List ℕ). w.0 ∷ w.1) same;
      all = λ q m. absurd (no_member q m);
      off = subst (λ k. is_marked marks k ≡ false) (ap (λ (w : ℕ × List ℕ). w.0) same) s;
    }
