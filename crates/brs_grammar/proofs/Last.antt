-- Whether the last part is a call, from one part to the next.
use Rattle.std.proofs.Common.{◌≡◌, ℕ, ◌+◌, ◌<◌, Bool, List, [], ◌∷◌, ◌++◌, length, take, get_or, refl, sym, ap, ◌∙◌}
use Rattle.std.proofs.lemmas.List.{take_more}
use Rattle.brs_grammar.specs.declared.tree.Postfix.{Postfix}
use Rattle.brs_grammar.specs.Statements.{is_call, last_is_call}

last_append : (xs : List Postfix) (x : Postfix) → last_is_call (xs ++ x ∷ []) ≡ is_call x
last_append [] x = refl
last_append (y ∷ []) x = refl
last_append (y ∷ z ∷ ys) x = last_append (z ∷ ys) x

pub last_more : (found : Bool) (xs : List Postfix) (i : ℕ) (x : Postfix) → i < length xs → x ≡ get_or xs i x → found ≡ is_call x → found ≡ last_is_call (take (i + 1) xs)
last_more found xs i x h at is =
    is ∙ sym (last_append (take i xs) x) ∙ ap (λ y. last_is_call (take i xs ++ y ∷ [])) at ∙ ap last_is_call (sym (take_more xs i x h))
