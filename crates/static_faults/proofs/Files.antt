-- The static faults of a file's functions, and that the one found stands first.
use Rattle.std.proofs.Common.{◌≡◌, ℕ, ◌+◌, ◌<◌, true, false, cond, List, [], ◌∷◌, ◌++◌, Option, None, Some, length, take, get_or, refl, sym, ap, ◌∙◌, append_assoc}
use Rattle.std.proofs.Common.{◌↔◌, Bool, IsNone, IfSome, Contains, arith, rules}
use Rattle.std.proofs.lemmas.List.{take_more, append-nil}
use Rattle.std.proofs.lemmas.List.Elements.{All-nil, All-cons, All-same, All-weaker, Contains-append_right}
use Rattle.brs_grammar.specs.declared.tree.NamedFunction.{NamedFunction}
use Rattle.brs_grammar.specs.Form.{Text}
use Rattle.brs_grammar.specs.View.{named_of}
use Rattle.static_faults.specs.declared.fault.StaticFault.{StaticFault}
use Rattle.static_faults.specs.First.{is_before, earlier, first_by_place, StandsFirst}
use Rattle.static_faults.specs.Faults.{named_faults, functions_faults, faults}
use Rattle.static_faults.specs.Parts.{function_name, function_names}
use Rattle.static_faults.proofs.Earlier.{first_append, before_not, before_self, before_once}

functions_append : (before : List Text) (fs : List NamedFunction) (f : NamedFunction) → functions_faults before (fs ++ f ∷ []) ≡ functions_faults before fs ++ named_faults (before ++ function_names fs) (named_of f)
functions_append before [] f = append-nil _ ∙ ap (λ b. named_faults b (named_of f)) (sym (append-nil before))
functions_append before (g ∷ gs) f =
    ap (λ l. named_faults before (named_of g) ++ l) (functions_append (before ++ function_name g ∷ []) gs f)
    ∙ ap (λ b. named_faults before (named_of g) ++ (functions_faults (before ++ function_name g ∷ []) gs ++ named_faults b (named_of f))) (append_assoc before (function_name g ∷ []) (function_names gs))
    ∙ sym (append_assoc (named_faults before (named_of g)) _ _)

-- one more turn of the loop over a file's functions
pub file_more : (found one found' : Option StaticFault) (fs : List NamedFunction) (i : ℕ) (f : NamedFunction) → i < length fs → f ≡ get_or fs i f
    → found ≡ first_by_place (faults (take i fs)) → one ≡ first_by_place (named_faults (function_names (take i fs)) (named_of f)) → found' ≡ earlier found one
    → found' ≡ first_by_place (faults (take (i + 1) fs))
file_more found one found' fs i f h at was is new =
    new ∙ ap (λ x. earlier x one) was ∙ ap (earlier (first_by_place (faults (take i fs)))) is
    ∙ sym (first_append (faults (take i fs)) _)
    ∙ ap first_by_place (sym (functions_append [] (take i fs) f))
    ∙ ap (λ y. first_by_place (faults (take i fs ++ y ∷ []))) at
    ∙ ap (λ l. first_by_place (faults l)) (sym (take_more fs i f h))

-- ---- the fault that is found stands first

never_none : (x : StaticFault) (m : Option StaticFault) → earlier (Some x) m ≡ None → ⊥
never_none x None e = cc
never_none x (Some y) e = go (is_before y x) e
  where
    go : (b : Bool) → cond b (Some y) (Some x) ≡ None → ⊥
    go true h = cc
    go false h = cc

none_listed : (xs : List StaticFault) → first_by_place xs ≡ None → xs ≡ []
none_listed [] e = refl
none_listed (x ∷ xs) e = absurd (never_none x (first_by_place xs) e)

pub none_is : (xs : List StaticFault) → IsNone (first_by_place xs) ↔ (xs ≡ [])
none_is xs = (λ h. none_listed xs (search (rules, h)), λ e. search (rules, e))

head_is_listed : (x : StaticFault) (xs : List StaticFault) → Contains (x ∷ xs) x
head_is_listed x xs = (0, omega arith, refl)

-- none of these stands before a fault
abbrev NoneBefore : StaticFault → StaticFault → Type 0
NoneBefore f other = is_before other f ≡ false

first_step : (x : StaticFault) (xs : List StaticFault) (m : Option StaticFault) → (m ≡ None → xs ≡ []) → IfSome m (λ f. StandsFirst f xs) → IfSome (earlier (Some x) m) (λ f. StandsFirst f (x ∷ xs))
first_step x xs None empty h = record {
  listed = head_is_listed x xs;
  none_before = All-cons (NoneBefore x) x xs (before_self x) (All-same (NoneBefore x) xs [] (empty refl) (All-nil (NoneBefore x)));
}
first_step x xs (Some y) empty h = go (is_before y x) refl
  where
    go : (b : Bool) → is_before y x ≡ b → IfSome (cond b (Some y) (Some x)) (λ f. StandsFirst f (x ∷ xs))
    go true e = record {
      listed = Contains-append_right (x ∷ []) xs y h.listed;
      none_before = All-cons (NoneBefore y) x xs (before_once x y e) h.none_before;
    }
    go false e = record {
      listed = head_is_listed x xs;
      none_before = All-cons (NoneBefore x) x xs (before_self x) (All-weaker (NoneBefore y) (NoneBefore x) (λ z. before_not x y z e) xs h.none_before);
    }

pub first_stands : (xs : List StaticFault) → IfSome (first_by_place xs) (λ f. StandsFirst f xs)
first_stands [] = tt
first_stands (x ∷ xs) = first_step x xs (first_by_place xs) (none_listed xs) (first_stands xs)
