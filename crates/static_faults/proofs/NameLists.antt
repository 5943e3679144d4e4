-- Names without regard to case, and whether a name stands before.
use Rattle.std.proofs.Common.{◌≡◌, ℕ, ◌+◌, ◌<◌, ◌||◌, Bool, true, false, List, [], ◌∷◌, ◌++◌, length, map, take, get_or, refl, sym, ap, ◌∙◌}
use Rattle.std.proofs.lemmas.List.{take_more}
use Rattle.std.specs.Str.{bytes_eq}
use Rattle.brs_grammar.specs.Form.{Text}
use Rattle.static_faults.specs.Table.{is_among}

or_assoc : (a b c : Bool) → a || (b || c) ≡ (a || b) || c
or_assoc true b c = refl
or_assoc false b c = refl

or_false : (b : Bool) → b || false ≡ b
or_false true = refl
or_false false = refl

among_append : (before : List Text) (y x : Text) → is_among (before ++ y ∷ []) x ≡ is_among before x || bytes_eq y x
among_append [] y x = or_false (bytes_eq y x)
among_append (z ∷ zs) y x = ap (λ b. bytes_eq z x || b) (among_append zs y x) ∙ or_assoc (bytes_eq z x) (is_among zs x) (bytes_eq y x)

pub map_append : {A : Type 0} (name : A → Text) (xs : List A) (x : A) → map name (xs ++ x ∷ []) ≡ map name xs ++ name x ∷ []
map_append name [] x = refl
map_append name (y ∷ ys) x = ap (λ l. name y ∷ l) (map_append name ys x)

-- one more turn of a search for a name
pub among_more : {A : Type 0} (name : A → Text) (found found' : Bool) (xs : List A) (x : Text) (i : ℕ) (y : A) → i < length xs → y ≡ get_or xs i y
    → found ≡ is_among (map name (take i xs)) x → found' ≡ found || bytes_eq (name y) x → found' ≡ is_among (map name (take (i + 1) xs)) x
among_more name found found' xs x i y h at was new =
    new ∙ ap (λ b. b || bytes_eq (name y) x) was
    ∙ sym (among_append (map name (take i xs)) (name y) x)
    ∙ ap (λ ns. is_among ns x) (sym (map_append name (take i xs) y))
    ∙ ap (λ z. is_among (map name (take i xs ++ z ∷ [])) x) at
    ∙ ap (λ l. is_among (map name l) x) (sym (take_more xs i y h))
