-- What the rules of expressions give has the operands that it takes, where what stands inside has.
use Rattle.std.proofs.Common.{inl, inr, [], ◌∷◌, sym, subst}
use Rattle.std.specs.Prelude.{All}
use Rattle.std.proofs.lemmas.List.Elements.{All-nil, All-cons}
use Rattle.grammar_rules.specs.Words.{place_of, word_of}
use Rattle.grammar_rules.specs.Rules.{Pure}
use Rattle.brs_grammar.specs.declared.tree.Postfix.TheVariants as postfix
use Rattle.brs_grammar.specs.Leaves as L
use Rattle.brs_grammar.specs.Leaves.{name_of, product_sign, sum_sign, shift_sign, comparison_sign}
use Rattle.brs_grammar.specs.Expressions as X
use Rattle.form_operands.proofs.Gives.{Gives, either_gives, many_gives, trailing_gives}
use Rattle.form_operands.proofs.Parts.{OrPartTakes, AndPartTakes, ComparisonPartTakes, ShiftPartTakes, SumPartTakes, ProductPartTakes, ExpressionTakes, ConjunctionTakes, NegationTakes, ComparisonTakes, ShiftTakes, SumTakes, ProductTakes, MinusTakes, ValueTakes, PrimaryTakes, PostfixTakes, PairTakes, StatementTakes, RestTakes, or_part_takes, and_part_takes, comparison_part_takes, shift_part_takes, sum_part_takes, product_part_takes, expression_takes, conjunction_takes, comparison_takes, shift_takes, sum_takes, product_takes, value_takes, negative_takes, positive_takes, not_takes, plain_takes, member_takes, index_takes, arguments_take, number_takes, text_takes, true_takes, false_takes, invalid_takes, name_takes, bracketed_takes, array_takes, pairs_take, pair_takes, anonymous_function_takes, anonymous_sub_takes}

pub one : {A : Type 0} (P : A → Type 0) (x : A) → P x → All P (x ∷ [])
one P x t = All-cons P x [] t (All-nil P)

-- what stands inside
pub record Within (i : X.Inside) : Type 0 where
  pub expression : Gives ExpressionTakes i.expression
  pub arguments : Gives (All ExpressionTakes) i.arguments
  pub items : Gives (All ExpressionTakes) i.items
  pub pairs : Gives (All PairTakes) i.pairs
  pub negation : Gives NegationTakes i.negation
  pub minus : Gives MinusTakes i.minus
  pub block : Gives (All StatementTakes) i.block
  pub rest : Gives RestTakes i.rest

-- ---- primary expressions

number_gives : Gives PrimaryTakes L.Number
unfolding L.Number
number_gives ts a s = subst PrimaryTakes (sym s.second.1) (number_takes (place_of s.value) s.value.slice)

text_gives : Gives PrimaryTakes L.Text
unfolding L.Text
text_gives ts a s = subst PrimaryTakes (sym s.second.1) (text_takes (place_of s.value) s.value.slice)

true_gives : Gives PrimaryTakes L.True
unfolding L.True
true_gives ts a s = subst PrimaryTakes (sym s.second.1) (true_takes (place_of s.value))

false_gives : Gives PrimaryTakes L.False
unfolding L.False
false_gives ts a s = subst PrimaryTakes (sym s.second.1) (false_takes (place_of s.value))

invalid_gives : Gives PrimaryTakes L.Invalid
unfolding L.Invalid
invalid_gives ts a s = subst PrimaryTakes (sym s.second.1) (invalid_takes (place_of s.value))

variable_gives : Gives PrimaryTakes L.Variable
unfolding L.Variable
variable_gives ts a s = subst PrimaryTakes (sym s.second.1) (name_takes (name_of s.value))

member_gives : Gives (All PostfixTakes) L.Member
unfolding L.Member
member_gives ts a s =
    let x = postfix.Member (place_of s.value) (name_of s.second.value) in
    subst (All PostfixTakes) (sym s.second.second.1) (one PostfixTakes x (member_takes (place_of s.value) (name_of s.second.value)))

gap_gives : {A : Type 0} (P : A → Type 0) → Gives (All P) L.Gap
unfolding L.CommaGap L.NewlineGap
gap_gives P ts a (inl s) = subst (All P) (sym s.second.second.second.1) (All-nil P)
gap_gives P ts a (inr s) = subst (All P) (sym s.second.second.1) (All-nil P)

module _ (i : X.Inside) (w : Within i) where
  bracketed_gives : Gives PrimaryTakes (X.Bracketed i)
  unfolding X.Bracketed
  bracketed_gives ts a s =
      let u = s.second in
      subst PrimaryTakes (sym u.second.second.1) (bracketed_takes (place_of s.value) u.value (w.expression u.front u.value u.first))

  array_gives : Gives PrimaryTakes (X.Array i)
  unfolding X.Array
  array_gives ts a s =
      let u = s.second in
      subst PrimaryTakes (sym u.second.second.1) (array_takes (place_of s.value) u.value (w.items u.front u.value u.first))

  pairs_gives : Gives PrimaryTakes (X.Pairs i)
  unfolding X.Pairs
  pairs_gives ts a s =
      let u = s.second in
      subst PrimaryTakes (sym u.second.second.1) (pairs_take (place_of s.value) u.value (w.pairs u.front u.value u.first))

  anonymous_function_gives : Gives PrimaryTakes (X.AnonymousFunction i)
  unfolding X.AnonymousFunction
  anonymous_function_gives ts a s =
      let u = s.second in
      subst PrimaryTakes (sym u.second.second.1) (anonymous_function_takes (place_of s.value) u.value (w.rest u.front u.value u.first))

  anonymous_sub_gives : Gives PrimaryTakes (X.AnonymousSub i)
  unfolding X.AnonymousSub
  anonymous_sub_gives ts a s =
      let u = s.second in
      subst PrimaryTakes (sym u.second.second.1) (anonymous_sub_takes (place_of s.value) u.value (w.rest u.front u.value u.first))

  primary_gives : Gives PrimaryTakes (X.APrimary i)
  primary_gives ts a (inl x) = number_gives ts a x
  primary_gives ts a (inr (inl x)) = text_gives ts a x
  primary_gives ts a (inr (inr (inl x))) = true_gives ts a x
  primary_gives ts a (inr (inr (inr (inl x)))) = false_gives ts a x
  primary_gives ts a (inr (inr (inr (inr (inl x))))) = invalid_gives ts a x
  primary_gives ts a (inr (inr (inr (inr (inr (inl x)))))) = variable_gives ts a x
  primary_gives ts a (inr (inr (inr (inr (inr (inr (inl x))))))) = bracketed_gives ts a x
  primary_gives ts a (inr (inr (inr (inr (inr (inr (inr (inl x)))))))) = array_gives ts a x
  primary_gives ts a (inr (inr (inr (inr (inr (inr (inr (inr (inl x))))))))) = pairs_gives ts a x
  primary_gives ts a (inr (inr (inr (inr (inr (inr (inr (inr (inr (inl x)))))))))) = anonymous_function_gives ts a x
  primary_gives ts a (inr (inr (inr (inr (inr (inr (inr (inr (inr (inr x)))))))))) = anonymous_sub_gives ts a x

  -- ---- what stands behind a value

  index_gives : Gives (All PostfixTakes) (X.Index i)
  unfolding X.Index
  index_gives ts a s =
      let u = s.second in
      let x = postfix.Index (place_of s.value) u.value in
      subst (All PostfixTakes) (sym u.second.second.1) (one PostfixTakes x (index_takes (place_of s.value) u.value (w.expression u.front u.value u.first)))

  arguments_give : Gives (All PostfixTakes) (X.Arguments i)
  unfolding X.Arguments
  arguments_give ts a s =
      let u = s.second in
      let x = postfix.Arguments (place_of s.value) u.value in
      subst (All PostfixTakes) (sym u.second.second.1) (one PostfixTakes x (arguments_take (place_of s.value) u.value (w.arguments u.front u.value u.first)))

  pub postfix_gives : Gives (All PostfixTakes) (X.APostfix i)
  postfix_gives ts a (inl x) = member_gives ts a x
  postfix_gives ts a (inr (inl x)) = index_gives ts a x
  postfix_gives ts a (inr (inr x)) = arguments_give ts a x

  value_gives : Gives ValueTakes (X.AValue i)
  unfolding X.AValue
  value_gives ts a s =
      let u = s.second in
      subst ValueTakes (sym u.second.1) (value_takes s.value u.value (primary_gives s.front s.value s.first) (many_gives PostfixTakes (X.APostfix i) postfix_gives u.front u.value u.first))

  -- ---- operators

  negative_gives : Gives MinusTakes (X.Negative i)
  unfolding X.Negative
  negative_gives ts a s =
      let u = s.second in
      subst MinusTakes (sym u.second.1) (negative_takes (place_of s.value) u.value (w.minus u.front u.value u.first))

  positive_gives : Gives MinusTakes (X.Positive i)
  unfolding X.Positive
  positive_gives ts a s = subst MinusTakes (sym s.second.1) (positive_takes s.value (value_gives s.front s.value s.first))

  pub minus_gives : Gives MinusTakes (X.AMinus i)
  minus_gives ts a (inl x) = negative_gives ts a x
  minus_gives ts a (inr x) = positive_gives ts a x

  product_part_gives : Gives (All ProductPartTakes) (X.AProductPart i)
  unfolding X.AProductPart
  product_part_gives ts a s =
      let u = s.second in
      subst (All ProductPartTakes) (sym u.second.1) (one ProductPartTakes _ (product_part_takes (place_of s.value) (product_sign (word_of s.value)) u.value (minus_gives u.front u.value u.first)))

  pub product_gives : Gives ProductTakes (X.AProduct i)
  unfolding X.AProduct
  product_gives ts a s =
      let u = s.second in
      subst ProductTakes (sym u.second.1) (product_takes s.value u.value (minus_gives s.front s.value s.first) (many_gives ProductPartTakes (X.AProductPart i) product_part_gives u.front u.value u.first))

  sum_part_gives : Gives (All SumPartTakes) (X.ASumPart i)
  unfolding X.ASumPart
  sum_part_gives ts a s =
      let u = s.second in
      subst (All SumPartTakes) (sym u.second.1) (one SumPartTakes _ (sum_part_takes (place_of s.value) (sum_sign (word_of s.value)) u.value (product_gives u.front u.value u.first)))

  pub sum_gives : Gives SumTakes (X.ASum i)
  unfolding X.ASum
  sum_gives ts a s =
      let u = s.second in
      subst SumTakes (sym u.second.1) (sum_takes s.value u.value (product_gives s.front s.value s.first) (many_gives SumPartTakes (X.ASumPart i) sum_part_gives u.front u.value u.first))

  shift_part_gives : Gives (All ShiftPartTakes) (X.AShiftPart i)
  unfolding X.AShiftPart
  shift_part_gives ts a s =
      let u = s.second in
      subst (All ShiftPartTakes) (sym u.second.1) (one ShiftPartTakes _ (shift_part_takes (place_of s.value) (shift_sign (word_of s.value)) u.value (sum_gives u.front u.value u.first)))

  pub shift_gives : Gives ShiftTakes (X.AShift i)
  unfolding X.AShift
  shift_gives ts a s =
      let u = s.second in
      subst ShiftTakes (sym u.second.1) (shift_takes s.value u.value (sum_gives s.front s.value s.first) (many_gives ShiftPartTakes (X.AShiftPart i) shift_part_gives u.front u.value u.first))

  comparison_part_gives : Gives (All ComparisonPartTakes) (X.AComparisonPart i)
  unfolding X.AComparisonPart
  comparison_part_gives ts a s =
      let u = s.second in
      subst (All ComparisonPartTakes) (sym u.second.1) (one ComparisonPartTakes _ (comparison_part_takes (place_of s.value) (comparison_sign (word_of s.value)) u.value (shift_gives u.front u.value u.first)))

  pub comparison_gives : Gives ComparisonTakes (X.AComparison i)
  unfolding X.AComparison
  comparison_gives ts a s =
      let u = s.second in
      subst ComparisonTakes (sym u.second.1) (comparison_takes s.value u.value (shift_gives s.front s.value s.first) (many_gives ComparisonPartTakes (X.AComparisonPart i) comparison_part_gives u.front u.value u.first))

  not_gives : Gives NegationTakes (X.Not i)
  unfolding X.Not
  not_gives ts a s =
      let u = s.second in
      subst NegationTakes (sym u.second.1) (not_takes (place_of s.value) u.value (w.negation u.front u.value u.first))

  plain_gives : Gives NegationTakes (X.Plain i)
  unfolding X.Plain
  plain_gives ts a s = subst NegationTakes (sym s.second.1) (plain_takes s.value (comparison_gives s.front s.value s.first))

  pub negation_gives : Gives NegationTakes (X.ANegation i)
  negation_gives ts a (inl x) = not_gives ts a x
  negation_gives ts a (inr x) = plain_gives ts a x

  and_part_gives : Gives (All AndPartTakes) (X.AnAndPart i)
  unfolding X.AnAndPart
  and_part_gives ts a s =
      let u = s.second in
      subst (All AndPartTakes) (sym u.second.1) (one AndPartTakes _ (and_part_takes (place_of s.value) u.value (negation_gives u.front u.value u.first)))

  pub conjunction_gives : Gives ConjunctionTakes (X.AConjunction i)
  unfolding X.AConjunction
  conjunction_gives ts a s =
      let u = s.second in
      subst ConjunctionTakes (sym u.second.1) (conjunction_takes s.value u.value (negation_gives s.front s.value s.first) (many_gives AndPartTakes (X.AnAndPart i) and_part_gives u.front u.value u.first))

  or_part_gives : Gives (All OrPartTakes) (X.AnOrPart i)
  unfolding X.AnOrPart
  or_part_gives ts a s =
      let u = s.second in
      subst (All OrPartTakes) (sym u.second.1) (one OrPartTakes _ (or_part_takes (place_of s.value) u.value (conjunction_gives u.front u.value u.first)))

  pub expression_gives : Gives ExpressionTakes (X.AnExpression i)
  unfolding X.AnExpression
  expression_gives ts a s =
      let u = s.second in
      subst ExpressionTakes (sym u.second.1) (expression_takes s.value u.value (conjunction_gives s.front s.value s.first) (many_gives OrPartTakes (X.AnOrPart i) or_part_gives u.front u.value u.first))

  -- ---- what stands inside brackets

  next_argument_gives : Gives (All ExpressionTakes) (X.NextArgument i)
  unfolding X.NextArgument
  next_argument_gives ts a s =
      let u = s.second in
      subst (All ExpressionTakes) (sym u.second.1) (one ExpressionTakes u.value (expression_gives u.front u.value u.first))

  some_arguments_give : Gives (All ExpressionTakes) (X.SomeArguments i)
  unfolding X.SomeArguments
  some_arguments_give ts a s =
      let u = s.second in
      subst (All ExpressionTakes) (sym u.second.1)
      (All-cons ExpressionTakes s.value u.value (expression_gives s.front s.value s.first) (many_gives ExpressionTakes (X.NextArgument i) next_argument_gives u.front u.value u.first))

  pub all_arguments_give : Gives (All ExpressionTakes) (X.AllArguments i)
  all_arguments_give ts a (inl x) = some_arguments_give ts a x
  all_arguments_give ts a (inr e) = subst (All ExpressionTakes) (sym e.1) (All-nil ExpressionTakes)

  item_gives : Gives (All ExpressionTakes) (X.AnItem i)
  unfolding X.AnItem
  item_gives ts a s = subst (All ExpressionTakes) (sym s.second.1) (one ExpressionTakes s.value (expression_gives s.front s.value s.first))

  some_items_give : Gives (All ExpressionTakes) (X.SomeItems i)
  unfolding X.SomeItems
  some_items_give ts a s =
      let u = s.second in
      subst (All ExpressionTakes) (sym u.second.1)
      (All-cons ExpressionTakes s.value u.value (expression_gives s.front s.value s.first)
      (trailing_gives ExpressionTakes L.Gap (X.AnItem i) (gap_gives ExpressionTakes) item_gives u.front u.value u.first))

  pub all_items_give : Gives (All ExpressionTakes) (X.AllItems i)
  unfolding X.AllItems
  all_items_give ts a s =
      either_gives (All ExpressionTakes) (X.SomeItems i) (Pure []) some_items_give (λ us b e. subst (All ExpressionTakes) (sym e.1) (All-nil ExpressionTakes)) s.back a s.second

  pair_gives : Gives PairTakes (X.APair i)
  unfolding X.APair
  pair_gives ts a s =
      let u = s.second.second in
      subst PairTakes (sym u.second.1) (pair_takes s.value u.value (expression_gives u.front u.value u.first))

  next_pair_gives : Gives (All PairTakes) (X.NextPair i)
  unfolding X.NextPair
  next_pair_gives ts a s = subst (All PairTakes) (sym s.second.1) (one PairTakes s.value (pair_gives s.front s.value s.first))

  some_pairs_give : Gives (All PairTakes) (X.SomePairs i)
  unfolding X.SomePairs
  some_pairs_give ts a s =
      let u = s.second in
      subst (All PairTakes) (sym u.second.1)
      (All-cons PairTakes s.value u.value (pair_gives s.front s.value s.first) (trailing_gives PairTakes L.Gap (X.NextPair i) (gap_gives PairTakes) next_pair_gives u.front u.value u.first))

  pub all_pairs_give : Gives (All PairTakes) (X.AllPairs i)
  unfolding X.AllPairs
  all_pairs_give ts a s =
      either_gives (All PairTakes) (X.SomePairs i) (Pure []) some_pairs_give (λ us b e. subst (All PairTakes) (sym e.1) (All-nil PairTakes)) s.back a s.second
