-- Loops that count their turns up, beside readings that count them down.
use Rattle.std.proofs.Common.{◌≡◌, ℕ, suc, ◌+◌, ◌-◌, ◌<◌, true, false, cond, List, [], ◌∷◌, ◌++◌, Some, Option, ap, ◌∙◌, arith}
use Rattle.xml_pieces.specs.declared.piece.AttributeText.{AttributeText}
use Rattle.xml_pieces.specs.declared.part.Part.{Part}
use Rattle.xml_pieces.specs.Parts.{part_bytes}
use Rattle.xml_pieces.specs.Written.{is_space, is_attribute_byte, is_empty}
use Rattle.xml_pieces.specs.Reading.{Outcome, bind, first, run, after, value_part, value_from, attribute, attributes_from}

one_more : {A : Type 0} (f : ℕ → A) (o : A) (n at : ℕ) → at < n → o ≡ f (n - at) → o ≡ f (suc (n - (at + 1)))
one_more f o n at below e = let turn : n - at ≡ suc (n - (at + 1)) = omega arith in e ∙ ap f turn

pub value_more : (n at : ℕ) (p : Part) (bs rest found : List ℕ) (o : Option (List ℕ)) → at < n → is_empty bs ≡ false → value_part bs ≡ Some (p, rest) → o ≡ value_from (n - at) found bs
    → o ≡ value_from (n - (at + 1)) (found ++ part_bytes p) rest
unfolding value_from
value_more n at p bs rest found o below some part e =
    one_more (λ k. value_from k found bs) o n at below e
    ∙ ap (λ z. cond z (Some found) (bind (value_part bs) (λ x. value_from (n - (at + 1)) (found ++ part_bytes x.0) x.1))) some
    ∙ ap (λ z. bind z (λ x. value_from (n - (at + 1)) (found ++ part_bytes x.0) x.1)) part

pub attributes_more : (n at : ℕ) (bs rest : List ℕ) (found : List AttributeText) (a : AttributeText) (o : Outcome (List AttributeText)) → at < n
    → is_attribute_byte (first (after is_space bs)) ≡ true → is_empty (run is_space bs) ≡ false → attribute (after is_space bs) ≡ Some (a, rest)
    → o ≡ attributes_from (n - at) found bs → o ≡ attributes_from (n - (at + 1)) (found ++ a ∷ []) rest
unfolding attributes_from
attributes_more n at bs rest found a o below name gap next e =
    one_more (λ k. attributes_from k found bs) o n at below e
    ∙ simp (name, gap, next)
