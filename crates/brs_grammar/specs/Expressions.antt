-- The grammar of expressions: for each form the token lists that spell it, and its tree.
-- A row stands above its form. Braces mean any number, brackets at most one. The rows go from the smallest forms up to the whole expression.
use Rattle.std.specs.Prelude.{List, [], ◌∷◌}
use Rattle.grammar_rules.specs.declared.word.Word.TheVariants as w
use Rattle.grammar_rules.specs.Words.{word_of, place_of}
use Rattle.grammar_rules.specs.Rules.{Rule, One, Pure, Either, Many, Trailing, ◌>>=◌, ◌>>◌}
use Rattle.brs_grammar.specs.declared.tree.AndPart.{AndPart, roll-AndPart}
use Rattle.brs_grammar.specs.declared.tree.ComparisonPart.{ComparisonPart, roll-ComparisonPart}
use Rattle.brs_grammar.specs.declared.tree.Comparison.{Comparison, roll-Comparison}
use Rattle.brs_grammar.specs.declared.tree.Conjunction.{Conjunction, roll-Conjunction}
use Rattle.brs_grammar.specs.declared.tree.Expression.{Expression, roll-Expression}
use Rattle.brs_grammar.specs.declared.tree.Minus.{Minus}
use Rattle.brs_grammar.specs.declared.tree.Minus.TheVariants as minus
use Rattle.brs_grammar.specs.declared.tree.Negation.{Negation}
use Rattle.brs_grammar.specs.declared.tree.Negation.TheVariants as negation
use Rattle.brs_grammar.specs.declared.tree.OrPart.{OrPart, roll-OrPart}
use Rattle.brs_grammar.specs.declared.tree.Pair.{Pair, roll-Pair}
use Rattle.brs_grammar.specs.declared.tree.Postfix.{Postfix}
use Rattle.brs_grammar.specs.declared.tree.Postfix.TheVariants as postfix
use Rattle.brs_grammar.specs.declared.tree.Primary.{Primary}
use Rattle.brs_grammar.specs.declared.tree.Primary.TheVariants as primary
use Rattle.brs_grammar.specs.declared.tree.Product.{Product, roll-Product}
use Rattle.brs_grammar.specs.declared.tree.ProductPart.{ProductPart, roll-ProductPart}
use Rattle.brs_grammar.specs.declared.tree.Rest.{Rest}
use Rattle.brs_grammar.specs.declared.tree.Shift.{Shift, roll-Shift}
use Rattle.brs_grammar.specs.declared.tree.ShiftPart.{ShiftPart, roll-ShiftPart}
use Rattle.brs_grammar.specs.declared.tree.Statement.{Statement}
use Rattle.brs_grammar.specs.declared.tree.Sum.{Sum, roll-Sum}
use Rattle.brs_grammar.specs.declared.tree.SumPart.{SumPart, roll-SumPart}
use Rattle.brs_grammar.specs.declared.tree.Value.{Value, roll-Value}
unfoldable pub use Rattle.brs_grammar.specs.Leaves.{word, name, name_of, Blank, Newlines, CommaGap, NewlineGap, Gap, EndFunction, EndSub, Number, Text, True, False, Invalid, Variable, WordKey, QuotedKey, AKey, Member, is_product_sign, product_sign, is_sum_sign, sum_sign, is_shift_sign, shift_sign, is_comparison_sign, comparison_sign}

-- What stands inside brackets, blocks, anonymous functions and the operands of `not` and of `-`: their parts at a nesting number one less.
pub record Inside : Type 1 where
  pub expression : Rule Expression
  pub arguments : Rule (List Expression)
  pub items : Rule (List Expression)
  pub pairs : Rule (List Pair)
  pub negation : Rule Negation
  pub minus : Rule Minus
  pub block : Rule (List Statement)
  pub rest : Rule Rest

-- ---- what has parts, with what stands inside them

module _ (i : Inside) where
  --      | "(" expr ")"
  unfoldable pub Bracketed : Rule Primary
  Bracketed = do
    t ← word w.Open
    x ← i.expression
    word w.Close
    Pure (primary.Bracketed (place_of t) x)

  --      | array, where array = "[" .. "]"
  unfoldable pub Array : Rule Primary
  Array = do
    t ← word w.OpenBracket
    xs ← i.items
    word w.CloseBracket
    Pure (primary.Array (place_of t) xs)

  --      | pairs, where pairs = "{" .. "}"
  unfoldable pub Pairs : Rule Primary
  Pairs = do
    t ← word w.OpenBrace
    xs ← i.pairs
    word w.CloseBrace
    Pure (primary.Pairs (place_of t) xs)

  --      | "function" rest endfun
  unfoldable pub AnonymousFunction : Rule Primary
  AnonymousFunction = do
    t ← word w.Function
    r ← i.rest
    EndFunction
    Pure (primary.AnonymousFunction (place_of t) r)

  --      | "sub" rest endsub
  unfoldable pub AnonymousSub : Rule Primary
  AnonymousSub = do
    t ← word w.Sub
    r ← i.rest
    EndSub
    Pure (primary.AnonymousSub (place_of t) r)

  abbrev pub APrimary : Rule Primary
  APrimary =
      Either Number (Either Text (Either True (Either False (Either Invalid (Either Variable
      (Either Bracketed (Either Array (Either Pairs (Either AnonymousFunction AnonymousSub)))))))))

  -- more = "[" expr "]"
  unfoldable pub Index : Rule (List Postfix)
  Index = do
    t ← word w.OpenBracket
    x ← i.expression
    word w.CloseBracket
    Pure (postfix.Index (place_of t) x ∷ [])

  --      | "(" [ expr { "," expr } ] ")"
  unfoldable pub Arguments : Rule (List Postfix)
  Arguments = do
    t ← word w.Open
    xs ← i.arguments
    word w.Close
    Pure (postfix.Arguments (place_of t) xs ∷ [])

  abbrev pub APostfix : Rule (List Postfix)
  APostfix = Either Member (Either Index Arguments)

  -- post = prim { more }
  unfoldable pub AValue : Rule Value
  AValue = do
    x ← APrimary
    more ← Many APostfix
    Pure (roll-Value (record { first = x; more = more }))

  -- neg = "-" neg
  unfoldable pub Negative : Rule Minus
  Negative = do
    t ← word w.Minus
    x ← i.minus
    Pure (minus.Negative (place_of t) x)

  --     | post
  unfoldable pub Positive : Rule Minus
  Positive = do
    x ← AValue
    Pure (minus.Positive x)

  abbrev pub AMinus : Rule Minus
  AMinus = Either Negative Positive

  -- prod = neg { ("*" | "\" | "mod") neg }
  unfoldable pub AProductPart : Rule (List ProductPart)
  AProductPart = do
    t ← One is_product_sign
    x ← AMinus
    Pure (roll-ProductPart (record { place = place_of t; sign = product_sign (word_of t); operand = x }) ∷ [])

  unfoldable pub AProduct : Rule Product
  AProduct = do
    x ← AMinus
    more ← Many AProductPart
    Pure (roll-Product (record { first = x; more = more }))

  -- sum = prod { ("+" | "-") prod }
  unfoldable pub ASumPart : Rule (List SumPart)
  ASumPart = do
    t ← One is_sum_sign
    x ← AProduct
    Pure (roll-SumPart (record { place = place_of t; sign = sum_sign (word_of t); operand = x }) ∷ [])

  unfoldable pub ASum : Rule Sum
  ASum = do
    x ← AProduct
    more ← Many ASumPart
    Pure (roll-Sum (record { first = x; more = more }))

  -- shift = sum { ("<<" | ">>") sum }
  unfoldable pub AShiftPart : Rule (List ShiftPart)
  AShiftPart = do
    t ← One is_shift_sign
    x ← ASum
    Pure (roll-ShiftPart (record { place = place_of t; sign = shift_sign (word_of t); operand = x }) ∷ [])

  unfoldable pub AShift : Rule Shift
  AShift = do
    x ← ASum
    more ← Many AShiftPart
    Pure (roll-Shift (record { first = x; more = more }))

  -- comp = shift { ("=" | "<>" | "<" | ">" | "<=" | ">=") shift }
  unfoldable pub AComparisonPart : Rule (List ComparisonPart)
  AComparisonPart = do
    t ← One is_comparison_sign
    x ← AShift
    Pure (roll-ComparisonPart (record { place = place_of t; sign = comparison_sign (word_of t); operand = x }) ∷ [])

  unfoldable pub AComparison : Rule Comparison
  AComparison = do
    x ← AShift
    more ← Many AComparisonPart
    Pure (roll-Comparison (record { first = x; more = more }))

  -- not = "not" not
  unfoldable pub Not : Rule Negation
  Not = do
    t ← word w.Not
    x ← i.negation
    Pure (negation.Not (place_of t) x)

  --     | comp
  unfoldable pub Plain : Rule Negation
  Plain = do
    x ← AComparison
    Pure (negation.Plain x)

  abbrev pub ANegation : Rule Negation
  ANegation = Either Not Plain

  -- and = not { "and" not }
  unfoldable pub AnAndPart : Rule (List AndPart)
  AnAndPart = do
    t ← word w.And
    x ← ANegation
    Pure (roll-AndPart (record { place = place_of t; operand = x }) ∷ [])

  unfoldable pub AConjunction : Rule Conjunction
  AConjunction = do
    x ← ANegation
    more ← Many AnAndPart
    Pure (roll-Conjunction (record { first = x; more = more }))

  -- expr = and { "or" and }
  unfoldable pub AnOrPart : Rule (List OrPart)
  AnOrPart = do
    t ← word w.Or
    x ← AConjunction
    Pure (roll-OrPart (record { place = place_of t; operand = x }) ∷ [])

  unfoldable pub AnExpression : Rule Expression
  AnExpression = do
    x ← AConjunction
    more ← Many AnOrPart
    Pure (roll-Expression (record { first = x; more = more }))

  -- ---- what stands inside brackets

  -- [ expr { "," expr } ] of a call
  unfoldable pub NextArgument : Rule (List Expression)
  NextArgument = do
    word w.Comma
    x ← AnExpression
    Pure (x ∷ [])

  unfoldable pub SomeArguments : Rule (List Expression)
  SomeArguments = do
    x ← AnExpression
    more ← Many NextArgument
    Pure (x ∷ more)

  abbrev pub AllArguments : Rule (List Expression)
  AllArguments = Either SomeArguments (Pure [])

  -- array = .. { NL } [ expr { gap expr } [ gap ] ] ..
  unfoldable pub AnItem : Rule (List Expression)
  AnItem = do
    x ← AnExpression
    Pure (x ∷ [])

  unfoldable pub SomeItems : Rule (List Expression)
  SomeItems = do
    x ← AnExpression
    more ← Trailing Gap AnItem
    Pure (x ∷ more)

  unfoldable pub AllItems : Rule (List Expression)
  AllItems = do
    Newlines
    Either SomeItems (Pure [])

  -- pair = (word | text) ":" expr
  unfoldable pub APair : Rule Pair
  APair = do
    k ← AKey
    word w.Colon
    x ← AnExpression
    Pure (roll-Pair (record { key = k; value = x }))

  -- pairs = .. { NL } [ pair { gap pair } [ gap ] ] ..
  unfoldable pub NextPair : Rule (List Pair)
  NextPair = do
    x ← APair
    Pure (x ∷ [])

  unfoldable pub SomePairs : Rule (List Pair)
  SomePairs = do
    x ← APair
    more ← Trailing Gap NextPair
    Pure (x ∷ more)

  unfoldable pub AllPairs : Rule (List Pair)
  AllPairs = do
    Newlines
    Either SomePairs (Pure [])
