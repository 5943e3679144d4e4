-- Names that stand twice, case aside, are found from the back.
use Rattle.std.proofs.Common.{◌≡◌, ◌∙◌, ℕ, zero, suc, Bool, true, false, not, ◌&&◌, List, [], ◌∷◌, drop, refl, ap, sym, arith}
use Rattle.std.specs.Char.{to_ascii_lowercase}
use Rattle.std.specs.Str.{bytes_eq, str_to_ascii_lowercase}
use Rattle.std.proofs.lemmas.Grind.{common_steps}
use Rattle.std.proofs.lemmas.Bool.Decides.{nat_tests}
use Rattle.chan_values.specs.Folded.{folded, folded_byte}
use Rattle.xml_pieces.specs.declared.piece.AttributeText.{AttributeText}
use Rattle.component_files.specs.Elements.{alike, has_alike, are_unlike}

lower_is : (b : ℕ) → to_ascii_lowercase b ≡ folded_byte b
lower_is b = grind (arith, common_steps, nat_tests)

lowered : (name : List ℕ) → str_to_ascii_lowercase name ≡ folded name
lowered [] = refl
lowered (b ∷ name) = ap (λ c. c ∷ str_to_ascii_lowercase name) (lower_is b) ∙ ap (λ l. folded_byte b ∷ l) (lowered name)

pub folded_alike : (a b : List ℕ) → bytes_eq (folded a) (folded b) ≡ alike a b
folded_alike a b = sym (ap (λ l. bytes_eq l (str_to_ascii_lowercase b)) (lowered a) ∙ ap (bytes_eq (folded a)) (lowered b))

and_false : (a b : Bool) → b ≡ false → (a && b) ≡ false
and_false true b e = e
and_false false b e = refl

-- what stands twice behind a place stands twice
behind : (k : ℕ) (all : List AttributeText) → are_unlike (drop k all) ≡ false → are_unlike all ≡ false
behind zero all e = e
behind (suc k) [] e = e
behind (suc k) (a ∷ all) e = and_false (not (has_alike all a.name)) (are_unlike all) (behind k all e)

first_twice : (has later : Bool) → has ≡ true → (not has && later) ≡ false
first_twice true later e = refl
first_twice false later e = absurd (cc)

pub twice : (k : ℕ) (all more : List AttributeText) (a : AttributeText) → drop k all ≡ a ∷ more → has_alike more a.name ≡ true → false ≡ are_unlike all
twice k all more a at has = sym (behind k all (ap are_unlike at ∙ first_twice (has_alike more a.name) (are_unlike more) has))
