-- A list of queues that is seen as the list of what they hold.
use Rattle.std.proofs.Common.{◌≡◌, ℕ, ◌<◌, List, map, set, get_or, length, sym, ◌∙◌, ap, subst}
use Rattle.std.proofs.lemmas.List.{map-set, get_or-map, length-map, set-get_or}

-- what one of them holds
pub held_at : {X Y : Type 0} (f : X → Y) (xs : List X) (held : List Y) (i : ℕ) (d : X) (e : Y)
    → map f xs ≡ held → i < length held → f (get_or xs i d) ≡ get_or held i e
held_at f xs held i d e is within =
    let P : ℕ → Type 0 = λ n. i < n in
    sym (get_or-map f xs i d e (subst P (ap length (sym is) ∙ length-map xs f) within)) ∙ ap (λ ys. get_or ys i e) is

-- what they hold once one of them was changed
pub held_after : {X Y : Type 0} (f : X → Y) (xs : List X) (held : List Y) (i : ℕ) (x : X) (y : Y)
    → map f xs ≡ held → f x ≡ y → map f (set xs i x) ≡ set held i y
held_after f xs held i x y is new = map-set f xs i x ∙ ap (λ ys. set ys i (f x)) is ∙ ap (λ z. set held i z) new

-- what they hold once one of them was written back
pub held_again : {X Y : Type 0} (f : X → Y) (xs : List X) (held : List Y) (i : ℕ) (x : X) (e : Y)
    → map f xs ≡ held → f x ≡ get_or held i e → map f (set xs i x) ≡ held
held_again f xs held i x e is same = held_after f xs held i x (get_or held i e) is same ∙ set-get_or held i e
