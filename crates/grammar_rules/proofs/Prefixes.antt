-- A first fault depends on nothing behind it.
use Rattle.std.proofs.Common.{◌≡◌, ℕ, suc, ◌≤◌, List, [], ◌∷◌, ◌++◌, length, take, length-append, sym, ap, ◌∙◌, append_assoc, subst, arith}
use Rattle.std.proofs.lemmas.List.{take-append-le}
use Rattle.brs_tokens.specs.Tok.{Tok}
use Rattle.grammar_rules.specs.Rules.{Rule}
use Rattle.grammar_rules.specs.Faults.{Goes, FirstFault}

-- the tokens up to the one behind a front
up_to : (front more : List Tok) (t : Tok) (j : ℕ) → j ≤ length front → take (suc j) (front ++ t ∷ more) ≡ take (suc j) (front ++ t ∷ [])
up_to front more t j h =
    ap (take (suc j)) (sym (append_assoc front (t ∷ []) more)) ∙ take-append-le (suc j) (front ++ t ∷ []) more (omega (arith, length-append front (t ∷ [])))

goes_same : {A : Type 0} (r : Rule A) (front more other : List Tok) (t : Tok) (j : ℕ) → j ≤ length front → Goes A r (front ++ t ∷ more) j → Goes A r (front ++ t ∷ other) j
goes_same r front more other t j h g = record {
  more = g.more;
  value = g.value;
  spells = subst (λ z. r (z ++ g.more) g.value) (up_to front more t j h ∙ sym (up_to front other t j h)) g.spells;
  ends = λ l. absurd (omega (arith, l, h, length-append front (t ∷ other)));
}

pub same_fault : {A : Type 0} (r : Rule A) (front more other : List Tok) (t : Tok) → FirstFault A r (front ++ t ∷ more) (length front) → FirstFault A r (front ++ t ∷ other) (length front)
same_fault r front more other t f = record {
  within = omega (arith, length-append front (t ∷ other));
  here = λ g. f.here (goes_same r front other more t (length front) (omega arith) g);
  before = λ j l. goes_same r front more other t j (omega (arith, l)) (f.before j l);
}
