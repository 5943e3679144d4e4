-- Targets by what stands before the key name.
use Rattle.std.proofs.Common.{◌≡◌, ℕ, ◌+◌, true, false, List, ◌++◌, length, take, drop, get_or, codes, Option, Some, None, IfSome, nat_eq, sym, refl, ap, ◌∙◌, subst, take-append-drop}
use Rattle.std.specs.Cmp.Lexicographic.{pointwise}
use Rattle.std.proofs.lemmas.Bool.{both_ways, eq-eqb}
use Rattle.std.proofs.lemmas.Slice.Eq.{bytes_eq-Decides}
use Rattle.ecp_requests.specs.Targets.{Names, Asks, keypress, keydown, keyup}
use Rattle.ecp_requests.specs.declared.request.Request.{Request}

-- what `strip_prefix` says where it answers what follows
pub stripped : (s p rest : List ℕ) → (pointwise nat_eq (take (length p) s) p ≡ true) × (rest ≡ drop (length p) s) × (length rest + length p ≡ length s)
    → s ≡ p ++ rest
stripped s p rest h =
    let front : take (length p) s ≡ p = (bytes_eq-Decides (take (length p) s) p).0 h.0 in
    sym (take-append-drop (length p) s) ∙ ap (λ f. f ++ drop (length p) s) front ∙ ap (λ r. p ++ r) (sym h.1)

differ_at : (at : ℕ) (a b : List ℕ) → a ≡ b → nat_eq (get_or a at 0) (get_or b at 0) ≡ false → ⊥
differ_at at a b e apart = both_ways _ apart (eq-eqb _ _ (ap (λ l. get_or l at 0) e))

pub asks_keypress : (target text : List ℕ) (r : Option Request) → target ≡ codes "/keypress/" ++ text
    → IfSome r (λ q. Names text true true q) → IfSome r (λ q. Asks target q)
asks_keypress target text None is h = tt
asks_keypress target text (Some q) is h = keypress text is h

pub asks_keydown : (target text : List ℕ) (r : Option Request) → target ≡ codes "/keydown/" ++ text
    → IfSome r (λ q. Names text true false q) → IfSome r (λ q. Asks target q)
asks_keydown target text None is h = tt
asks_keydown target text (Some q) is h = keydown text is h

pub asks_keyup : (target text : List ℕ) (r : Option Request) → target ≡ codes "/keyup/" ++ text
    → IfSome r (λ q. Names text false true q) → IfSome r (λ q. Asks target q)
asks_keyup target text None is h = tt
asks_keyup target text (Some q) is h = keyup text is h

pub keypress_asked : (target text : List ℕ) (q : Request) → target ≡ codes "/keypress/" ++ text → Asks target q → Names text true true q
keypress_asked target text q is (keypress other was h) = subst (λ t. Names t true true q) (ap (drop 10) (sym was ∙ is)) h
keypress_asked target text q is (keydown other was h) = absurd (differ_at 4 _ _ (sym is ∙ was) refl)
keypress_asked target text q is (keyup other was h) = absurd (differ_at 4 _ _ (sym is ∙ was) refl)

pub keydown_asked : (target text : List ℕ) (q : Request) → target ≡ codes "/keydown/" ++ text → Asks target q → Names text true false q
keydown_asked target text q is (keypress other was h) = absurd (differ_at 4 _ _ (sym is ∙ was) refl)
keydown_asked target text q is (keydown other was h) = subst (λ t. Names t true false q) (ap (drop 9) (sym was ∙ is)) h
keydown_asked target text q is (keyup other was h) = absurd (differ_at 4 _ _ (sym is ∙ was) refl)

pub keyup_asked : (target text : List ℕ) (q : Request) → target ≡ codes "/keyup/" ++ text → Asks target q → Names text false true q
keyup_asked target text q is (keypress other was h) = absurd (differ_at 4 _ _ (sym is ∙ was) refl)
keyup_asked target text q is (keydown other was h) = absurd (differ_at 4 _ _ (sym is ∙ was) refl)
keyup_asked target text q is (keyup other was h) = subst (λ t. Names t false true q) (ap (drop 7) (sym was ∙ is)) h
