-- The code of each chain of operators, from that of its parts.
use Rattle.std.proofs.Common.{◌≡◌, List, [], ◌∷◌, ◌++◌, length, map, refl, sym, ap, ◌∙◌, append_assoc}
use Rattle.std.proofs.lemmas.List.{append-nil}
use Rattle.brs_tokens.specs.declared.place.Place.{Place}
use Rattle.brs_grammar.specs.declared.tree.AndPart.{AndPart, out-AndPart}
use Rattle.brs_grammar.specs.declared.tree.Comparison.{Comparison, out-Comparison}
use Rattle.brs_grammar.specs.declared.tree.ComparisonPart.{ComparisonPart, out-ComparisonPart}
use Rattle.brs_grammar.specs.declared.tree.Conjunction.{Conjunction, out-Conjunction}
use Rattle.brs_grammar.specs.declared.tree.Expression.{Expression, out-Expression}
use Rattle.brs_grammar.specs.declared.tree.Minus.{Minus}
use Rattle.brs_grammar.specs.declared.tree.Minus.TheVariants as minus
use Rattle.brs_grammar.specs.declared.tree.Negation.{Negation}
use Rattle.brs_grammar.specs.declared.tree.Negation.TheVariants as negation
use Rattle.brs_grammar.specs.declared.tree.OrPart.{OrPart, out-OrPart}
use Rattle.brs_grammar.specs.declared.tree.Product.{Product, out-Product}
use Rattle.brs_grammar.specs.declared.tree.ProductPart.{ProductPart, out-ProductPart}
use Rattle.brs_grammar.specs.declared.tree.Shift.{Shift, out-Shift}
use Rattle.brs_grammar.specs.declared.tree.ShiftPart.{ShiftPart, out-ShiftPart}
use Rattle.brs_grammar.specs.declared.tree.Sum.{Sum, out-Sum}
use Rattle.brs_grammar.specs.declared.tree.SumPart.{SumPart, out-SumPart}
use Rattle.brs_grammar.specs.declared.tree.Value.{Value}
use Rattle.brs_grammar.specs.Form as p
use Rattle.brs_grammar.specs.Form.{Head, Form, Node, more, none}
use Rattle.brs_grammar.specs.View.{Operand, chained, minus_of, negation_of, and_part_of, comparison_part_of, conjunction_of, or_part_of, product_of, product_part_of, shift_of, shift_part_of, sum_of, sum_part_of}
use Rattle.brs_grammar.proofs.Views as v
use Rattle.brs_code.specs.declared.instr.Instr.TheVariants as i
use Rattle.brs_code.specs.declared.instr.Operator.TheVariants as op
use Rattle.code_drafts.specs.declared.draft.Draft.{Draft}
use Rattle.code_drafts.specs.declared.draft.Draft.TheVariants.{Plain}
use Rattle.code_relation.specs.Heads.{comparison_operator, shift_operator, sum_operator, product_operator}
use Rattle.code_drafts.specs.DraftCode.{form_code, right_code, operand_code, tested, flat}
use Rattle.code_drafts.specs.TreeCode.{expression_code, or_part_code, conjunction_code, and_part_code, negation_code, comparison_code, comparison_part_code, shift_code, shift_part_code, sum_code, sum_part_code, product_code, product_part_code, minus_code, value_code}

-- two operands: the left one, and the right one with the operator
paired : (h : Head) (at : Place) (x r : Form) → form_code (Node h at (more x (more r none))) ≡ form_code x ++ right_code h at r
paired p.And at x r = simp (append_assoc, append-nil)
paired p.Or at x r = simp (append_assoc, append-nil)
paired h at x r = simp (append_assoc, append-nil)

chained_code : {A : Type 0} (part : A → Operand) (x : Form) (ys : List A) → form_code (chained x (map part ys)) ≡ form_code x ++ flat (λ y. operand_code (part y)) ys
chained_code part x [] = sym (append-nil (form_code x))
chained_code part x (y ∷ ys) =
    let behind = flat (λ z. operand_code (part z)) ys in
    chained_code part (Node (part y).head (part y).place (more x (more (part y).right none))) ys
    ∙ ap (λ l. l ++ behind) (paired (part y).head (part y).place x (part y).right)
    ∙ append_assoc (form_code x) (operand_code (part y)) behind

pub expression_is : (e : Expression) → expression_code e ≡ conjunction_code (out-Expression e).first ++ flat or_part_code (out-Expression e).more
expression_is e = ap form_code (v.expression-out e) ∙ chained_code or_part_of (conjunction_of (out-Expression e).first) (out-Expression e).more

pub or_part_is : (x : OrPart) → or_part_code x ≡ tested i.OrTest (out-OrPart x).place.line (conjunction_code (out-OrPart x).operand) ++ Plain (i.Binary op.Or) (out-OrPart x).place.line ∷ []
or_part_is x = ap operand_code (v.or-part-out x)

pub conjunction_is : (e : Conjunction) → conjunction_code e ≡ negation_code (out-Conjunction e).first ++ flat and_part_code (out-Conjunction e).more
conjunction_is e = ap form_code (v.conjunction-out e) ∙ chained_code and_part_of (negation_of (out-Conjunction e).first) (out-Conjunction e).more

pub and_part_is : (x : AndPart) → and_part_code x ≡ tested i.AndTest (out-AndPart x).place.line (negation_code (out-AndPart x).operand) ++ Plain (i.Binary op.And) (out-AndPart x).place.line ∷ []
and_part_is x = ap operand_code (v.and-part-out x)

pub not_is : (at : Place) (x : Negation) → negation_code (negation.Not at x) ≡ negation_code x ++ Plain i.Not at.line ∷ []
not_is at x = ap form_code (v.negation-Not at x) ∙ ap (λ l. l ++ Plain i.Not at.line ∷ []) (append-nil (negation_code x))

pub plain_is : (x : Comparison) → negation_code (negation.Plain x) ≡ comparison_code x
plain_is x = ap form_code (v.negation-Plain x)

pub comparison_is : (e : Comparison) → comparison_code e ≡ shift_code (out-Comparison e).first ++ flat comparison_part_code (out-Comparison e).more
comparison_is e = ap form_code (v.comparison-out e) ∙ chained_code comparison_part_of (shift_of (out-Comparison e).first) (out-Comparison e).more

pub comparison_part_is : (x : ComparisonPart) → comparison_part_code x ≡ shift_code (out-ComparisonPart x).operand ++ Plain (i.Binary (comparison_operator (out-ComparisonPart x).sign)) (out-ComparisonPart x).place.line ∷ []
comparison_part_is x = ap operand_code (v.comparison-part-out x)

pub shift_is : (e : Shift) → shift_code e ≡ sum_code (out-Shift e).first ++ flat shift_part_code (out-Shift e).more
shift_is e = ap form_code (v.shift-out e) ∙ chained_code shift_part_of (sum_of (out-Shift e).first) (out-Shift e).more

pub shift_part_is : (x : ShiftPart) → shift_part_code x ≡ sum_code (out-ShiftPart x).operand ++ Plain (i.Binary (shift_operator (out-ShiftPart x).sign)) (out-ShiftPart x).place.line ∷ []
shift_part_is x = ap operand_code (v.shift-part-out x)

pub sum_is : (e : Sum) → sum_code e ≡ product_code (out-Sum e).first ++ flat sum_part_code (out-Sum e).more
sum_is e = ap form_code (v.sum-out e) ∙ chained_code sum_part_of (product_of (out-Sum e).first) (out-Sum e).more

pub sum_part_is : (x : SumPart) → sum_part_code x ≡ product_code (out-SumPart x).operand ++ Plain (i.Binary (sum_operator (out-SumPart x).sign)) (out-SumPart x).place.line ∷ []
sum_part_is x = ap operand_code (v.sum-part-out x)

pub product_is : (e : Product) → product_code e ≡ minus_code (out-Product e).first ++ flat product_part_code (out-Product e).more
product_is e = ap form_code (v.product-out e) ∙ chained_code product_part_of (minus_of (out-Product e).first) (out-Product e).more

pub product_part_is : (x : ProductPart) → product_part_code x ≡ minus_code (out-ProductPart x).operand ++ Plain (i.Binary (product_operator (out-ProductPart x).sign)) (out-ProductPart x).place.line ∷ []
product_part_is x = ap operand_code (v.product-part-out x)

pub negative_is : (at : Place) (x : Minus) → minus_code (minus.Negative at x) ≡ minus_code x ++ Plain i.Negate at.line ∷ []
negative_is at x = ap form_code (v.minus-Negative at x) ∙ ap (λ l. l ++ Plain i.Negate at.line ∷ []) (append-nil (minus_code x))

pub positive_is : (x : Value) → minus_code (minus.Positive x) ≡ value_code x
positive_is x = ap form_code (v.minus-Positive x)

pub ruleset chains = (
  expression_is,
  conjunction_is,
  comparison_is,
  shift_is,
  sum_is,
  product_is,
  or_part_is,
  and_part_is,
  not_is,
  plain_is,
  comparison_part_is,
  shift_part_is,
  sum_part_is,
  product_part_is,
  negative_is,
  positive_is,
  append_assoc,
  append-nil,
)
