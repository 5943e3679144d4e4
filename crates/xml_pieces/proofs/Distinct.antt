-- Names that stand twice are found from the back.
use Rattle.std.proofs.Common.{◌≡◌, ◌∙◌, ◌<◌, ◌≤◌, ◌+◌, ◌-◌, ℕ, zero, suc, Bool, true, false, not, ◌&&◌, List, [], ◌∷◌, length, take, drop, get_or, refl, ap, sym, arith}
use Rattle.std.proofs.lemmas.List.{drop_more, get_or-take}
use Rattle.xml_pieces.specs.declared.piece.AttributeText.{AttributeText}
use Rattle.xml_pieces.specs.Written.{has_name, are_distinct}

and_false : (a b : Bool) → b ≡ false → (a && b) ≡ false
and_false true b e = e
and_false false b e = refl

-- what stands twice behind a place stands twice
behind : (k : ℕ) (all : List AttributeText) → are_distinct (drop k all) ≡ false → are_distinct all ≡ false
behind zero all e = e
behind (suc k) [] e = e
behind (suc k) (a ∷ all) e = and_false (not (has_name all a.name)) (are_distinct all) (behind k all e)

first_twice : (has later : Bool) → has ≡ true → (not has && later) ≡ false
first_twice true later e = refl
first_twice false later e = absurd (cc)

pub twice : (k : ℕ) (all more : List AttributeText) (a : AttributeText) → drop k all ≡ a ∷ more → has_name more a.name ≡ true → false ≡ are_distinct all
twice k all more a at has = sym (behind k all (ap are_distinct at ∙ first_twice (has_name more a.name) (are_distinct more) has))

-- the last of a front of a list, and what stands behind it
pub last_behind : {A : Type 0} (rest all : List A) (x : A) → rest ≡ take (length rest) all → length rest - 1 < length all → 1 ≤ length rest → x ≡ get_or rest (length rest - 1) x
    → drop (length rest - 1) all ≡ x ∷ drop (length rest) all
last_behind rest all x front here some last =
    let n = length rest - 1 in
    let below : n < length rest = omega (arith, some) in
    let next : n + 1 ≡ length rest = omega (arith, some) in
    let same : get_or all n x ≡ x = sym (get_or-take (length rest) all n x below) ∙ ap (λ l. get_or l n x) (sym front) ∙ sym last in
    drop_more all n x here ∙ ap (λ y. y ∷ drop (n + 1) all) same ∙ ap (λ k. x ∷ drop k all) next

true_not_false : (b : Bool) → b ≡ true → b ≡ false → true ≡ false
true_not_false b one other = sym one ∙ other

pub was_there : (there added : Bool) → added ≡ not there → added ≡ false → there ≡ true
was_there true added answer old = refl
was_there false added answer old = sym (true_not_false added answer old)
