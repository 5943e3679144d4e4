-- What a parser with one token ahead reads of expressions, form by form.
use Rattle.std.specs.Prelude.{ℕ, List, [], ◌∷◌}
use Rattle.grammar_rules.specs.declared.word.Word.TheVariants as w
use Rattle.grammar_rules.specs.Words.{word_of, place_of, is_name}
use Rattle.grammar_rules.specs.Reading.{Parser, ◌>>=◌, ◌>>◌, pure, one, choose, many, trail, nested}
use Rattle.brs_grammar.specs.declared.tree.AndPart.{AndPart, roll-AndPart}
use Rattle.brs_grammar.specs.declared.tree.ComparisonPart.{ComparisonPart, roll-ComparisonPart}
use Rattle.brs_grammar.specs.declared.tree.Comparison.{Comparison, roll-Comparison}
use Rattle.brs_grammar.specs.declared.tree.Conjunction.{Conjunction, roll-Conjunction}
use Rattle.brs_grammar.specs.declared.tree.Expression.{Expression, roll-Expression}
use Rattle.brs_grammar.specs.declared.tree.Minus.{Minus}
use Rattle.brs_grammar.specs.declared.tree.Minus.TheVariants as minus
use Rattle.brs_grammar.specs.declared.tree.Negation.{Negation}
use Rattle.brs_grammar.specs.declared.tree.Negation.TheVariants as negation
use Rattle.brs_grammar.specs.declared.tree.OrPart.{OrPart, roll-OrPart}
use Rattle.brs_grammar.specs.declared.tree.Pair.{Pair, roll-Pair}
use Rattle.brs_grammar.specs.declared.tree.Postfix.{Postfix}
use Rattle.brs_grammar.specs.declared.tree.Postfix.TheVariants as postfix
use Rattle.brs_grammar.specs.declared.tree.Primary.{Primary}
use Rattle.brs_grammar.specs.declared.tree.Primary.TheVariants as primary
use Rattle.brs_grammar.specs.declared.tree.Product.{Product, roll-Product}
use Rattle.brs_grammar.specs.declared.tree.ProductPart.{ProductPart, roll-ProductPart}
use Rattle.brs_grammar.specs.declared.tree.Rest.{Rest}
use Rattle.brs_grammar.specs.declared.tree.Shift.{Shift, roll-Shift}
use Rattle.brs_grammar.specs.declared.tree.ShiftPart.{ShiftPart, roll-ShiftPart}
use Rattle.brs_grammar.specs.declared.tree.Statement.{Statement}
use Rattle.brs_grammar.specs.declared.tree.Sum.{Sum, roll-Sum}
use Rattle.brs_grammar.specs.declared.tree.SumPart.{SumPart, roll-SumPart}
use Rattle.brs_grammar.specs.declared.tree.Value.{Value, roll-Value}
use Rattle.brs_grammar.specs.Expressions.{is_product_sign, product_sign, is_sum_sign, sum_sign, is_shift_sign, shift_sign, is_comparison_sign, comparison_sign}
unfoldable pub use Rattle.brs_grammar.specs.ReadLeaves.{is, word, a_name, begins_gap, begins_end_function, begins_end_sub, begins_key, begins_value, begins_minus, begins_expression, begins_postfix, blank, newlines, comma_gap, newline_gap, gap, end_function, end_sub, number, text, true_, false_, invalid, variable, word_key, quoted_key, a_key, member}

-- what stands inside, at a nesting number one less
pub record Inside : Type 0 where
  pub expression : Parser Expression
  pub arguments : Parser (List Expression)
  pub items : Parser (List Expression)
  pub pairs : Parser (List Pair)
  pub negation : Parser Negation
  pub minus : Parser Minus
  pub block : Parser (List Statement)
  pub rest : Parser Rest

-- ---- what has parts, at a nesting number and with what stands inside them

module _ (depth : ℕ) (j : Inside) where
  unfoldable pub bracketed : Parser Primary
  bracketed = nested depth (do
    t ← word w.Open
    x ← j.expression
    word w.Close
    pure (primary.Bracketed (place_of t) x))

  unfoldable pub array : Parser Primary
  array = nested depth (do
    t ← word w.OpenBracket
    xs ← j.items
    word w.CloseBracket
    pure (primary.Array (place_of t) xs))

  unfoldable pub pairs : Parser Primary
  pairs = nested depth (do
    t ← word w.OpenBrace
    xs ← j.pairs
    word w.CloseBrace
    pure (primary.Pairs (place_of t) xs))

  unfoldable pub anonymous_function : Parser Primary
  anonymous_function = nested depth (do
    t ← word w.Function
    r ← j.rest
    end_function
    pure (primary.AnonymousFunction (place_of t) r))

  unfoldable pub anonymous_sub : Parser Primary
  anonymous_sub = nested depth (do
    t ← word w.Sub
    r ← j.rest
    end_sub
    pure (primary.AnonymousSub (place_of t) r))

  unfoldable pub a_primary : Parser Primary
  a_primary = choose (is w.Number) number (choose (is w.Text) text (choose (is w.True) true_ (choose (is w.False) false_ (choose (is w.Invalid) invalid (choose is_name variable (choose (is w.Open) bracketed (choose (is w.OpenBracket) array (choose (is w.OpenBrace) pairs (choose (is w.Function) anonymous_function anonymous_sub)))))))))

  unfoldable pub index : Parser (List Postfix)
  index = nested depth (do
    t ← word w.OpenBracket
    x ← j.expression
    word w.CloseBracket
    pure (postfix.Index (place_of t) x ∷ []))

  unfoldable pub arguments : Parser (List Postfix)
  arguments = nested depth (do
    t ← word w.Open
    xs ← j.arguments
    word w.Close
    pure (postfix.Arguments (place_of t) xs ∷ []))

  unfoldable pub a_postfix : Parser (List Postfix)
  a_postfix = choose (is w.Dot) member (choose (is w.OpenBracket) index arguments)

  unfoldable pub postfixes : Parser (List Postfix)
  postfixes = many begins_postfix a_postfix

  unfoldable pub a_value : Parser Value
  a_value = do
    x ← a_primary
    more ← postfixes
    pure (roll-Value (record { first = x; more = more }))

  unfoldable pub negative : Parser Minus
  negative = nested depth (do
    t ← word w.Minus
    x ← j.minus
    pure (minus.Negative (place_of t) x))

  unfoldable pub positive : Parser Minus
  positive = do
    x ← a_value
    pure (minus.Positive x)

  unfoldable pub a_minus : Parser Minus
  a_minus = choose (is w.Minus) negative positive

  unfoldable pub product_part : Parser (List ProductPart)
  product_part = do
    t ← one is_product_sign
    x ← a_minus
    pure (roll-ProductPart (record { place = place_of t; sign = product_sign (word_of t); operand = x }) ∷ [])

  unfoldable pub product_parts : Parser (List ProductPart)
  product_parts = many is_product_sign product_part

  unfoldable pub a_product : Parser Product
  a_product = do
    x ← a_minus
    more ← product_parts
    pure (roll-Product (record { first = x; more = more }))

  unfoldable pub sum_part : Parser (List SumPart)
  sum_part = do
    t ← one is_sum_sign
    x ← a_product
    pure (roll-SumPart (record { place = place_of t; sign = sum_sign (word_of t); operand = x }) ∷ [])

  unfoldable pub sum_parts : Parser (List SumPart)
  sum_parts = many is_sum_sign sum_part

  unfoldable pub a_sum : Parser Sum
  a_sum = do
    x ← a_product
    more ← sum_parts
    pure (roll-Sum (record { first = x; more = more }))

  unfoldable pub shift_part : Parser (List ShiftPart)
  shift_part = do
    t ← one is_shift_sign
    x ← a_sum
    pure (roll-ShiftPart (record { place = place_of t; sign = shift_sign (word_of t); operand = x }) ∷ [])

  unfoldable pub shift_parts : Parser (List ShiftPart)
  shift_parts = many is_shift_sign shift_part

  unfoldable pub a_shift : Parser Shift
  a_shift = do
    x ← a_sum
    more ← shift_parts
    pure (roll-Shift (record { first = x; more = more }))

  unfoldable pub comparison_part : Parser (List ComparisonPart)
  comparison_part = do
    t ← one is_comparison_sign
    x ← a_shift
    pure (roll-ComparisonPart (record { place = place_of t; sign = comparison_sign (word_of t); operand = x }) ∷ [])

  unfoldable pub comparison_parts : Parser (List ComparisonPart)
  comparison_parts = many is_comparison_sign comparison_part

  unfoldable pub a_comparison : Parser Comparison
  a_comparison = do
    x ← a_shift
    more ← comparison_parts
    pure (roll-Comparison (record { first = x; more = more }))

  unfoldable pub not_ : Parser Negation
  not_ = nested depth (do
    t ← word w.Not
    x ← j.negation
    pure (negation.Not (place_of t) x))

  unfoldable pub plain_negation : Parser Negation
  plain_negation = do
    c ← a_comparison
    pure (negation.Plain c)

  unfoldable pub a_negation : Parser Negation
  a_negation = choose (is w.Not) not_ plain_negation

  unfoldable pub and_part : Parser (List AndPart)
  and_part = do
    t ← word w.And
    x ← a_negation
    pure (roll-AndPart (record { place = place_of t; operand = x }) ∷ [])

  unfoldable pub and_parts : Parser (List AndPart)
  and_parts = many (is w.And) and_part

  unfoldable pub a_conjunction : Parser Conjunction
  a_conjunction = do
    x ← a_negation
    more ← and_parts
    pure (roll-Conjunction (record { first = x; more = more }))

  unfoldable pub or_part : Parser (List OrPart)
  or_part = do
    t ← word w.Or
    x ← a_conjunction
    pure (roll-OrPart (record { place = place_of t; operand = x }) ∷ [])

  unfoldable pub or_parts : Parser (List OrPart)
  or_parts = many (is w.Or) or_part

  unfoldable pub an_expression : Parser Expression
  an_expression = do
    x ← a_conjunction
    more ← or_parts
    pure (roll-Expression (record { first = x; more = more }))

  unfoldable pub next_argument : Parser (List Expression)
  next_argument = do
    word w.Comma
    x ← an_expression
    pure (x ∷ [])

  unfoldable pub next_arguments : Parser (List Expression)
  next_arguments = many (is w.Comma) next_argument

  unfoldable pub some_arguments : Parser (List Expression)
  some_arguments = do
    x ← an_expression
    more ← next_arguments
    pure (x ∷ more)

  unfoldable pub all_arguments : Parser (List Expression)
  all_arguments = choose begins_expression some_arguments (pure [])

  unfoldable pub an_item : Parser (List Expression)
  an_item = do
    x ← an_expression
    pure (x ∷ [])

  unfoldable pub next_items : Parser (List Expression)
  next_items = trail begins_gap begins_expression gap an_item

  unfoldable pub some_items : Parser (List Expression)
  some_items = do
    x ← an_expression
    more ← next_items
    pure (x ∷ more)

  unfoldable pub all_items : Parser (List Expression)
  all_items = do
    newlines
    choose begins_expression some_items (pure [])

  unfoldable pub a_pair : Parser Pair
  a_pair = do
    k ← a_key
    word w.Colon
    x ← an_expression
    pure (roll-Pair (record { key = k; value = x }))

  unfoldable pub next_pair : Parser (List Pair)
  next_pair = do
    x ← a_pair
    pure (x ∷ [])

  unfoldable pub next_pairs : Parser (List Pair)
  next_pairs = trail begins_gap begins_key gap next_pair

  unfoldable pub some_pairs : Parser (List Pair)
  some_pairs = do
    x ← a_pair
    more ← next_pairs
    pure (x ∷ more)

  unfoldable pub all_pairs : Parser (List Pair)
  all_pairs = do
    newlines
    choose begins_key some_pairs (pure [])
