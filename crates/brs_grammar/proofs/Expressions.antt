-- Each reading of an expression reads the form of its name.
use Rattle.std.proofs.Common.{ℕ, zero, suc, Bool, true, false, ◌||◌, not, List, [], ◌∷◌, refl}
use Rattle.grammar_rules.specs.declared.word.Word.{Word}
use Rattle.grammar_rules.specs.declared.word.Word.TheVariants as w
use Rattle.grammar_rules.specs.Words.{same_word, is_one_of, is_name, is_word}
use Rattle.grammar_rules.proofs.Meets.{Meets}
use Rattle.grammar_rules.proofs.Good.{Good, any, one_good, class_good, pure_good, then_good, many_good, either_by, either_good, either_good_first, meets_as, good_as, absent}
use Rattle.grammar_rules.proofs.Rows.{trailing_good}
use Rattle.brs_tokens.specs.Tok.{Tok}
use Rattle.brs_grammar.specs.declared.tree.AndPart.{AndPart}
use Rattle.brs_grammar.specs.declared.tree.ComparisonPart.{ComparisonPart}
use Rattle.brs_grammar.specs.declared.tree.Comparison.{Comparison}
use Rattle.brs_grammar.specs.declared.tree.Conjunction.{Conjunction}
use Rattle.brs_grammar.specs.declared.tree.Expression.{Expression}
use Rattle.brs_grammar.specs.declared.tree.Key.{Key}
use Rattle.brs_grammar.specs.declared.tree.Minus.{Minus}
use Rattle.brs_grammar.specs.declared.tree.Negation.{Negation}
use Rattle.brs_grammar.specs.declared.tree.OrPart.{OrPart}
use Rattle.brs_grammar.specs.declared.tree.Pair.{Pair}
use Rattle.brs_grammar.specs.declared.tree.Postfix.{Postfix}
use Rattle.brs_grammar.specs.declared.tree.Primary.{Primary}
use Rattle.brs_grammar.specs.declared.tree.Product.{Product}
use Rattle.brs_grammar.specs.declared.tree.ProductPart.{ProductPart}
use Rattle.brs_grammar.specs.declared.tree.Rest.{Rest}
use Rattle.brs_grammar.specs.declared.tree.Shift.{Shift}
use Rattle.brs_grammar.specs.declared.tree.ShiftPart.{ShiftPart}
use Rattle.brs_grammar.specs.declared.tree.Statement.{Statement}
use Rattle.brs_grammar.specs.declared.tree.Sum.{Sum}
use Rattle.brs_grammar.specs.declared.tree.SumPart.{SumPart}
use Rattle.brs_grammar.specs.declared.tree.Value.{Value}
use Rattle.brs_grammar.specs.Expressions as G
use Rattle.brs_grammar.specs.Expressions.{is_product_sign, is_sum_sign, is_shift_sign, is_comparison_sign}
use Rattle.brs_grammar.specs.ReadExpressions as S
use Rattle.brs_grammar.specs.ReadExpressions.{is, begins_gap, begins_end_function, begins_end_sub, begins_key, begins_value, begins_minus, begins_expression, begins_postfix}
use Rattle.brs_grammar.proofs.Gaps.{newlines_good, gap_good}

-- ---- where a form ends: before each word that does not go on

abbrev pub stops_value : Word → Bool
stops_value k = not (begins_postfix k)

abbrev pub goes_product : Word → Bool
goes_product k = is_product_sign k || begins_postfix k

abbrev pub stops_product : Word → Bool
stops_product k = not (goes_product k)

abbrev pub goes_sum : Word → Bool
goes_sum k = is_sum_sign k || goes_product k

abbrev pub stops_sum : Word → Bool
stops_sum k = not (goes_sum k)

abbrev pub goes_shift : Word → Bool
goes_shift k = is_shift_sign k || goes_sum k

abbrev pub stops_shift : Word → Bool
stops_shift k = not (goes_shift k)

abbrev pub goes_comparison : Word → Bool
goes_comparison k = is_comparison_sign k || goes_shift k

abbrev pub stops_comparison : Word → Bool
stops_comparison k = not (goes_comparison k)

abbrev pub goes_conjunction : Word → Bool
goes_conjunction k = is w.And k || goes_comparison k

abbrev pub stops_conjunction : Word → Bool
stops_conjunction k = not (goes_conjunction k)

abbrev pub goes_expression : Word → Bool
goes_expression k = is w.Or k || goes_conjunction k

abbrev pub stops_expression : Word → Bool
stops_expression k = not (goes_expression k)

abbrev pub stops_arguments : Word → Bool
stops_arguments k = not (is w.Comma k || (goes_expression k || begins_expression k))

abbrev pub stops_items : Word → Bool
stops_items k = not (begins_gap k || (goes_expression k || begins_expression k))

abbrev pub begins_items : Word → Bool
begins_items k = is w.Newline k || begins_expression k

abbrev pub stops_pairs : Word → Bool
stops_pairs k = not (begins_gap k || (goes_expression k || begins_key k))

abbrev pub begins_pairs : Word → Bool
begins_pairs k = is w.Newline k || begins_key k

abbrev pub begins_line : Word → Bool
begins_line k =
    is_name k || is_one_of (w.Newline ∷ w.Colon ∷ w.Print ∷ w.Question ∷ w.Return ∷ w.Exit ∷ w.ExitFor ∷ w.ExitWhile ∷ w.If ∷ w.For ∷ w.While ∷ []) k

abbrev pub stops_block : Word → Bool
stops_block k = not (begins_line k)

-- ---- what stands inside: nothing at 0

pub record Inner (i : G.Inside) (j : S.Inside) : Type 0 where
  pub expression : Good Expression i.expression false begins_expression stops_expression j.expression
  pub arguments : Good (List Expression) i.arguments true begins_expression stops_arguments j.arguments
  pub items : Good (List Expression) i.items true begins_items stops_items j.items
  pub pairs : Good (List Pair) i.pairs true begins_pairs stops_pairs j.pairs
  pub negation : Good Negation i.negation false begins_expression stops_comparison j.negation
  pub minus : Good Minus i.minus false begins_minus stops_value j.minus
  pub block : Good (List Statement) i.block true begins_line stops_block j.block
  pub rest : Good Rest i.rest false (is w.Open) stops_block j.rest

pub record Nothing (i : G.Inside) : Type 0 where
  pub no_expression : (ts : List Tok) (a : Expression) → i.expression ts a → ⊥
  pub no_arguments : (ts : List Tok) (a : List Expression) → i.arguments ts a → ⊥
  pub no_items : (ts : List Tok) (a : List Expression) → i.items ts a → ⊥
  pub no_pairs : (ts : List Tok) (a : List Pair) → i.pairs ts a → ⊥
  pub no_negation : (ts : List Tok) (a : Negation) → i.negation ts a → ⊥
  pub no_minus : (ts : List Tok) (a : Minus) → i.minus ts a → ⊥
  pub no_block : (ts : List Tok) (a : List Statement) → i.block ts a → ⊥
  pub no_rest : (ts : List Tok) (a : Rest) → i.rest ts a → ⊥

abbrev pub Within : ℕ → G.Inside → S.Inside → Type 0
Within zero i j = Nothing i
Within (suc n) i j = Inner i j

-- ---- forms

pub end_function_good : Good Tok G.EndFunction false begins_end_function any S.end_function
unfolding same_word G.EndFunction S.end_function
end_function_good = good_as begins_end_function any (either_good (meets_as (is w.EndWord) any (then_good (one_good w.EndWord refl refl) (λ _. one_good w.Function refl refl) refl).meets refl refl) (one_good w.EndFunction refl refl) refl) refl refl

pub end_sub_good : Good Tok G.EndSub false begins_end_sub any S.end_sub
unfolding same_word G.EndSub S.end_sub
end_sub_good = good_as begins_end_sub any (either_good (meets_as (is w.EndWord) any (then_good (one_good w.EndWord refl refl) (λ _. one_good w.Sub refl refl) refl).meets refl refl) (one_good w.EndSub refl refl) refl) refl refl

pub number_good : Good Primary (G.Number) false (is w.Number) any (S.number)
unfolding same_word G.Number S.number
number_good = good_as (is w.Number) any (then_good (one_good w.Number refl refl) (λ t. pure_good _) refl) refl refl

pub text_good : Good Primary (G.Text) false (is w.Text) any (S.text)
unfolding same_word G.Text S.text
text_good = good_as (is w.Text) any (then_good (one_good w.Text refl refl) (λ t. pure_good _) refl) refl refl

pub true__good : Good Primary (G.True) false (is w.True) any (S.true_)
unfolding same_word G.True S.true_
true__good = good_as (is w.True) any (then_good (one_good w.True refl refl) (λ t. pure_good _) refl) refl refl

pub false__good : Good Primary (G.False) false (is w.False) any (S.false_)
unfolding same_word G.False S.false_
false__good = good_as (is w.False) any (then_good (one_good w.False refl refl) (λ t. pure_good _) refl) refl refl

pub invalid_good : Good Primary (G.Invalid) false (is w.Invalid) any (S.invalid)
unfolding same_word G.Invalid S.invalid
invalid_good = good_as (is w.Invalid) any (then_good (one_good w.Invalid refl refl) (λ t. pure_good _) refl) refl refl

pub variable_good : Good Primary (G.Variable) false is_name any (S.variable)
unfolding same_word G.Variable S.variable
variable_good = good_as is_name any (then_good (class_good is_name w.Name refl refl refl) (λ t. pure_good _) refl) refl refl

pub word_key_good : Good Key (G.WordKey) false is_word any (S.word_key)
unfolding same_word G.WordKey S.word_key
word_key_good = good_as is_word any (then_good (class_good is_word w.Name refl refl refl) (λ t. pure_good _) refl) refl refl

pub quoted_key_good : Good Key (G.QuotedKey) false (is w.Text) any (S.quoted_key)
unfolding same_word G.QuotedKey S.quoted_key
quoted_key_good = good_as (is w.Text) any (then_good (one_good w.Text refl refl) (λ t. pure_good _) refl) refl refl

pub a_key_good : Good Key (G.AKey) false begins_key any (S.a_key)
unfolding same_word S.a_key
a_key_good = good_as begins_key any (either_good word_key_good.meets quoted_key_good refl) refl refl

pub member_good : Good (List Postfix) (G.Member) false (is w.Dot) any (S.member)
unfolding same_word G.Member S.member
member_good = good_as (is w.Dot) any (then_good (one_good w.Dot refl refl) (λ t. then_good (class_good is_word w.Name refl refl refl) (λ k. pure_good _) refl) refl) refl refl

module _ (i : G.Inside) (j : S.Inside) where
  pub bracketed_meets : (n : ℕ) → Within n i j → Meets Primary (G.Bracketed i) false (is w.Open) any (S.bracketed n j)
  unfolding same_word G.Bracketed S.bracketed
  bracketed_meets zero inner = absent false (is w.Open) any (λ ts a x. inner.no_expression _ _ x.second.first)
  bracketed_meets (suc n) inner =
      meets_as (is w.Open) any (then_good (one_good w.Open refl refl) (λ t. then_good (inner.expression) (λ x. then_good (one_good w.Close refl refl) (λ _. pure_good _) refl) refl) refl).meets refl refl

  pub array_meets : (n : ℕ) → Within n i j → Meets Primary (G.Array i) false (is w.OpenBracket) any (S.array n j)
  unfolding same_word G.Array S.array
  array_meets zero inner = absent false (is w.OpenBracket) any (λ ts a x. inner.no_items _ _ x.second.first)
  array_meets (suc n) inner =
      meets_as (is w.OpenBracket) any (then_good (one_good w.OpenBracket refl refl) (λ t. then_good (inner.items) (λ xs. then_good (one_good w.CloseBracket refl refl) (λ _. pure_good _) refl) refl) refl).meets refl refl

  pub pairs_meets : (n : ℕ) → Within n i j → Meets Primary (G.Pairs i) false (is w.OpenBrace) any (S.pairs n j)
  unfolding same_word G.Pairs S.pairs
  pairs_meets zero inner = absent false (is w.OpenBrace) any (λ ts a x. inner.no_pairs _ _ x.second.first)
  pairs_meets (suc n) inner =
      meets_as (is w.OpenBrace) any (then_good (one_good w.OpenBrace refl refl) (λ t. then_good (inner.pairs) (λ xs. then_good (one_good w.CloseBrace refl refl) (λ _. pure_good _) refl) refl) refl).meets refl refl

  pub anonymous_function_meets : (n : ℕ) → Within n i j → Meets Primary (G.AnonymousFunction i) false (is w.Function) any (S.anonymous_function n j)
  unfolding same_word G.AnonymousFunction S.anonymous_function
  anonymous_function_meets zero inner = absent false (is w.Function) any (λ ts a x. inner.no_rest _ _ x.second.first)
  anonymous_function_meets (suc n) inner =
      meets_as (is w.Function) any (then_good (one_good w.Function refl refl) (λ t. then_good (inner.rest) (λ r. then_good (end_function_good) (λ _. pure_good _) refl) refl) refl).meets refl refl

  pub anonymous_sub_meets : (n : ℕ) → Within n i j → Meets Primary (G.AnonymousSub i) false (is w.Sub) any (S.anonymous_sub n j)
  unfolding same_word G.AnonymousSub S.anonymous_sub
  anonymous_sub_meets zero inner = absent false (is w.Sub) any (λ ts a x. inner.no_rest _ _ x.second.first)
  anonymous_sub_meets (suc n) inner =
      meets_as (is w.Sub) any (then_good (one_good w.Sub refl refl) (λ t. then_good (inner.rest) (λ r. then_good (end_sub_good) (λ _. pure_good _) refl) refl) refl).meets refl refl

  pub a_primary_good : (n : ℕ) → Within n i j → Good Primary (G.APrimary i) false begins_value any (S.a_primary n j)
  unfolding same_word S.a_primary
  a_primary_good n inner = good_as begins_value any (either_good number_good.meets (either_good text_good.meets (either_good true__good.meets (either_good false__good.meets (either_good invalid_good.meets (either_good_first variable_good (either_by (bracketed_meets n inner) (either_by (array_meets n inner) (either_by (pairs_meets n inner) (either_by (anonymous_function_meets n inner) (anonymous_sub_meets n inner) refl) refl) refl) refl) refl) refl) refl) refl) refl) refl) refl refl

  pub index_meets : (n : ℕ) → Within n i j → Meets (List Postfix) (G.Index i) false (is w.OpenBracket) any (S.index n j)
  unfolding same_word G.Index S.index
  index_meets zero inner = absent false (is w.OpenBracket) any (λ ts a x. inner.no_expression _ _ x.second.first)
  index_meets (suc n) inner =
      meets_as (is w.OpenBracket) any (then_good (one_good w.OpenBracket refl refl) (λ t. then_good (inner.expression) (λ x. then_good (one_good w.CloseBracket refl refl) (λ _. pure_good _) refl) refl) refl).meets refl refl

  pub arguments_meets : (n : ℕ) → Within n i j → Meets (List Postfix) (G.Arguments i) false (is w.Open) any (S.arguments n j)
  unfolding same_word G.Arguments S.arguments
  arguments_meets zero inner = absent false (is w.Open) any (λ ts a x. inner.no_arguments _ _ x.second.first)
  arguments_meets (suc n) inner =
      meets_as (is w.Open) any (then_good (one_good w.Open refl refl) (λ t. then_good (inner.arguments) (λ xs. then_good (one_good w.Close refl refl) (λ _. pure_good _) refl) refl) refl).meets refl refl

  pub a_postfix_good : (n : ℕ) → Within n i j → Good (List Postfix) (G.APostfix i) false begins_postfix any (S.a_postfix n j)
  unfolding same_word S.a_postfix
  a_postfix_good n inner = good_as begins_postfix any (either_good_first member_good (either_by (index_meets n inner) (arguments_meets n inner) refl) refl) refl refl

  pub a_value_good : (n : ℕ) → Within n i j → Good Value (G.AValue i) false begins_value stops_value (S.a_value n j)
  unfolding same_word G.AValue S.a_value S.postfixes
  a_value_good n inner = good_as begins_value stops_value (then_good (a_primary_good n inner) (λ x. then_good (many_good (a_postfix_good n inner).meets refl refl) (λ more. pure_good _) refl) refl) refl refl

  pub negative_meets : (n : ℕ) → Within n i j → Meets Minus (G.Negative i) false (is w.Minus) stops_value (S.negative n j)
  unfolding same_word G.Negative S.negative
  negative_meets zero inner = absent false (is w.Minus) stops_value (λ ts a x. inner.no_minus _ _ x.second.first)
  negative_meets (suc n) inner =
      meets_as (is w.Minus) stops_value (then_good (one_good w.Minus refl refl) (λ t. then_good (inner.minus) (λ x. pure_good _) refl) refl).meets refl refl

  pub positive_good : (n : ℕ) → Within n i j → Good Minus (G.Positive i) false begins_value stops_value (S.positive n j)
  unfolding same_word G.Positive S.positive
  positive_good n inner = good_as begins_value stops_value (then_good (a_value_good n inner) (λ x. pure_good _) refl) refl refl

  pub a_minus_good : (n : ℕ) → Within n i j → Good Minus (G.AMinus i) false begins_minus stops_value (S.a_minus n j)
  unfolding same_word S.a_minus
  a_minus_good n inner = good_as begins_minus stops_value (either_good (negative_meets n inner) (positive_good n inner) refl) refl refl

  pub product_part_good : (n : ℕ) → Within n i j → Good (List ProductPart) (G.AProductPart i) false is_product_sign stops_value (S.product_part n j)
  unfolding same_word G.AProductPart S.product_part
  product_part_good n inner = good_as is_product_sign stops_value (then_good (class_good is_product_sign w.Star refl refl refl) (λ t. then_good (a_minus_good n inner) (λ x. pure_good _) refl) refl) refl refl

  pub a_product_good : (n : ℕ) → Within n i j → Good Product (G.AProduct i) false begins_minus stops_product (S.a_product n j)
  unfolding same_word G.AProduct S.a_product S.product_parts
  a_product_good n inner = good_as begins_minus stops_product (then_good (a_minus_good n inner) (λ x. then_good (many_good (product_part_good n inner).meets refl refl) (λ more. pure_good _) refl) refl) refl refl

  pub sum_part_good : (n : ℕ) → Within n i j → Good (List SumPart) (G.ASumPart i) false is_sum_sign stops_product (S.sum_part n j)
  unfolding same_word G.ASumPart S.sum_part
  sum_part_good n inner = good_as is_sum_sign stops_product (then_good (class_good is_sum_sign w.Plus refl refl refl) (λ t. then_good (a_product_good n inner) (λ x. pure_good _) refl) refl) refl refl

  pub a_sum_good : (n : ℕ) → Within n i j → Good Sum (G.ASum i) false begins_minus stops_sum (S.a_sum n j)
  unfolding same_word G.ASum S.a_sum S.sum_parts
  a_sum_good n inner = good_as begins_minus stops_sum (then_good (a_product_good n inner) (λ x. then_good (many_good (sum_part_good n inner).meets refl refl) (λ more. pure_good _) refl) refl) refl refl

  pub shift_part_good : (n : ℕ) → Within n i j → Good (List ShiftPart) (G.AShiftPart i) false is_shift_sign stops_sum (S.shift_part n j)
  unfolding same_word G.AShiftPart S.shift_part
  shift_part_good n inner = good_as is_shift_sign stops_sum (then_good (class_good is_shift_sign w.ShiftLeft refl refl refl) (λ t. then_good (a_sum_good n inner) (λ x. pure_good _) refl) refl) refl refl

  pub a_shift_good : (n : ℕ) → Within n i j → Good Shift (G.AShift i) false begins_minus stops_shift (S.a_shift n j)
  unfolding same_word G.AShift S.a_shift S.shift_parts
  a_shift_good n inner = good_as begins_minus stops_shift (then_good (a_sum_good n inner) (λ x. then_good (many_good (shift_part_good n inner).meets refl refl) (λ more. pure_good _) refl) refl) refl refl

  pub comparison_part_good : (n : ℕ) → Within n i j → Good (List ComparisonPart) (G.AComparisonPart i) false is_comparison_sign stops_shift (S.comparison_part n j)
  unfolding same_word G.AComparisonPart S.comparison_part
  comparison_part_good n inner = good_as is_comparison_sign stops_shift (then_good (class_good is_comparison_sign w.Equal refl refl refl) (λ t. then_good (a_shift_good n inner) (λ x. pure_good _) refl) refl) refl refl

  pub a_comparison_good : (n : ℕ) → Within n i j → Good Comparison (G.AComparison i) false begins_minus stops_comparison (S.a_comparison n j)
  unfolding same_word G.AComparison S.a_comparison S.comparison_parts
  a_comparison_good n inner = good_as begins_minus stops_comparison (then_good (a_shift_good n inner) (λ x. then_good (many_good (comparison_part_good n inner).meets refl refl) (λ more. pure_good _) refl) refl) refl refl

  pub not__meets : (n : ℕ) → Within n i j → Meets Negation (G.Not i) false (is w.Not) stops_comparison (S.not_ n j)
  unfolding same_word G.Not S.not_
  not__meets zero inner = absent false (is w.Not) stops_comparison (λ ts a x. inner.no_negation _ _ x.second.first)
  not__meets (suc n) inner =
      meets_as (is w.Not) stops_comparison (then_good (one_good w.Not refl refl) (λ t. then_good (inner.negation) (λ x. pure_good _) refl) refl).meets refl refl

  pub plain_negation_good : (n : ℕ) → Within n i j → Good Negation (G.Plain i) false begins_minus stops_comparison (S.plain_negation n j)
  unfolding same_word G.Plain S.plain_negation
  plain_negation_good n inner = good_as begins_minus stops_comparison (then_good (a_comparison_good n inner) (λ c. pure_good _) refl) refl refl

  pub a_negation_good : (n : ℕ) → Within n i j → Good Negation (G.ANegation i) false begins_expression stops_comparison (S.a_negation n j)
  unfolding same_word S.a_negation
  a_negation_good n inner = good_as begins_expression stops_comparison (either_good (not__meets n inner) (plain_negation_good n inner) refl) refl refl

  pub and_part_good : (n : ℕ) → Within n i j → Good (List AndPart) (G.AnAndPart i) false (is w.And) stops_comparison (S.and_part n j)
  unfolding same_word G.AnAndPart S.and_part
  and_part_good n inner = good_as (is w.And) stops_comparison (then_good (one_good w.And refl refl) (λ t. then_good (a_negation_good n inner) (λ x. pure_good _) refl) refl) refl refl

  pub a_conjunction_good : (n : ℕ) → Within n i j → Good Conjunction (G.AConjunction i) false begins_expression stops_conjunction (S.a_conjunction n j)
  unfolding same_word G.AConjunction S.a_conjunction S.and_parts
  a_conjunction_good n inner = good_as begins_expression stops_conjunction (then_good (a_negation_good n inner) (λ x. then_good (many_good (and_part_good n inner).meets refl refl) (λ more. pure_good _) refl) refl) refl refl

  pub or_part_good : (n : ℕ) → Within n i j → Good (List OrPart) (G.AnOrPart i) false (is w.Or) stops_conjunction (S.or_part n j)
  unfolding same_word G.AnOrPart S.or_part
  or_part_good n inner = good_as (is w.Or) stops_conjunction (then_good (one_good w.Or refl refl) (λ t. then_good (a_conjunction_good n inner) (λ x. pure_good _) refl) refl) refl refl

  pub an_expression_good : (n : ℕ) → Within n i j → Good Expression (G.AnExpression i) false begins_expression stops_expression (S.an_expression n j)
  unfolding same_word G.AnExpression S.an_expression S.or_parts
  an_expression_good n inner = good_as begins_expression stops_expression (then_good (a_conjunction_good n inner) (λ x. then_good (many_good (or_part_good n inner).meets refl refl) (λ more. pure_good _) refl) refl) refl refl

  pub next_argument_good : (n : ℕ) → Within n i j → Good (List Expression) (G.NextArgument i) false (is w.Comma) stops_expression (S.next_argument n j)
  unfolding same_word G.NextArgument S.next_argument
  next_argument_good n inner = good_as (is w.Comma) stops_expression (then_good (one_good w.Comma refl refl) (λ _. then_good (an_expression_good n inner) (λ x. pure_good _) refl) refl) refl refl

  pub some_arguments_good : (n : ℕ) → Within n i j → Good (List Expression) (G.SomeArguments i) false begins_expression stops_arguments (S.some_arguments n j)
  unfolding same_word G.SomeArguments S.some_arguments S.next_arguments
  some_arguments_good n inner = good_as begins_expression stops_arguments (then_good (an_expression_good n inner) (λ x. then_good (many_good (next_argument_good n inner).meets refl refl) (λ more. pure_good _) refl) refl) refl refl

  pub all_arguments_good : (n : ℕ) → Within n i j → Good (List Expression) (G.AllArguments i) true begins_expression stops_arguments (S.all_arguments n j)
  unfolding same_word S.all_arguments
  all_arguments_good n inner = good_as begins_expression stops_arguments (either_good (some_arguments_good n inner).meets (pure_good _) refl) refl refl

  pub an_item_good : (n : ℕ) → Within n i j → Good (List Expression) (G.AnItem i) false begins_expression stops_expression (S.an_item n j)
  unfolding same_word G.AnItem S.an_item
  an_item_good n inner = good_as begins_expression stops_expression (then_good (an_expression_good n inner) (λ x. pure_good _) refl) refl refl

  pub some_items_good : (n : ℕ) → Within n i j → Good (List Expression) (G.SomeItems i) false begins_expression stops_items (S.some_items n j)
  unfolding same_word G.SomeItems S.some_items S.next_items
  some_items_good n inner = good_as begins_expression stops_items (then_good (an_expression_good n inner) (λ x. then_good (trailing_good gap_good (an_item_good n inner) refl refl refl) (λ more. pure_good _) refl) refl) refl refl

  pub all_items_good : (n : ℕ) → Within n i j → Good (List Expression) (G.AllItems i) true begins_items stops_items (S.all_items n j)
  unfolding same_word G.AllItems S.all_items
  all_items_good n inner = good_as begins_items stops_items (then_good (newlines_good) (λ _. either_good (some_items_good n inner).meets (pure_good _) refl) refl) refl refl

  pub a_pair_good : (n : ℕ) → Within n i j → Good Pair (G.APair i) false begins_key stops_expression (S.a_pair n j)
  unfolding same_word G.APair S.a_pair
  a_pair_good n inner = good_as begins_key stops_expression (then_good (a_key_good) (λ k. then_good (one_good w.Colon refl refl) (λ _. then_good (an_expression_good n inner) (λ x. pure_good _) refl) refl) refl) refl refl

  pub next_pair_good : (n : ℕ) → Within n i j → Good (List Pair) (G.NextPair i) false begins_key stops_expression (S.next_pair n j)
  unfolding same_word G.NextPair S.next_pair
  next_pair_good n inner = good_as begins_key stops_expression (then_good (a_pair_good n inner) (λ x. pure_good _) refl) refl refl

  pub some_pairs_good : (n : ℕ) → Within n i j → Good (List Pair) (G.SomePairs i) false begins_key stops_pairs (S.some_pairs n j)
  unfolding same_word G.SomePairs S.some_pairs S.next_pairs
  some_pairs_good n inner = good_as begins_key stops_pairs (then_good (a_pair_good n inner) (λ x. then_good (trailing_good gap_good (next_pair_good n inner) refl refl refl) (λ more. pure_good _) refl) refl) refl refl

  pub all_pairs_good : (n : ℕ) → Within n i j → Good (List Pair) (G.AllPairs i) true begins_pairs stops_pairs (S.all_pairs n j)
  unfolding same_word G.AllPairs S.all_pairs
  all_pairs_good n inner = good_as begins_pairs stops_pairs (then_good (newlines_good) (λ _. either_good (some_pairs_good n inner).meets (pure_good _) refl) refl) refl refl
