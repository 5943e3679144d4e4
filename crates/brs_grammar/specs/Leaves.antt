-- The grammar of the smallest forms: line ends and gaps, primary expressions without parts, keys, and signs.
-- A row stands above its form. Braces mean any number, brackets at most one.
use Rattle.std.specs.Prelude.{Bool, if◌then◌else◌, List, [], ◌∷◌}
use Rattle.grammar_rules.specs.declared.word.Word.{Word}
use Rattle.grammar_rules.specs.declared.word.Word.TheVariants as w
use Rattle.grammar_rules.specs.Words.{place_of, same_word, is_one_of, is_name, is_word}
use Rattle.grammar_rules.specs.Rules.{Rule, One, Pure, Either, Many, ◌>>=◌, ◌>>◌}
use Rattle.brs_tokens.specs.Tok.{Tok}
use Rattle.brs_grammar.specs.declared.tree.ComparisonSign.{ComparisonSign}
use Rattle.brs_grammar.specs.declared.tree.ComparisonSign.TheVariants as comparison
use Rattle.brs_grammar.specs.declared.tree.Key.{Key}
use Rattle.brs_grammar.specs.declared.tree.Key.TheVariants as key
use Rattle.brs_grammar.specs.declared.tree.Name.{Name}
use Rattle.brs_grammar.specs.declared.tree.Postfix.{Postfix}
use Rattle.brs_grammar.specs.declared.tree.Postfix.TheVariants as postfix
use Rattle.brs_grammar.specs.declared.tree.Primary.{Primary}
use Rattle.brs_grammar.specs.declared.tree.Primary.TheVariants as primary
use Rattle.brs_grammar.specs.declared.tree.ProductSign.{ProductSign}
use Rattle.brs_grammar.specs.declared.tree.ProductSign.TheVariants as product
use Rattle.brs_grammar.specs.declared.tree.ShiftSign.{ShiftSign}
use Rattle.brs_grammar.specs.declared.tree.ShiftSign.TheVariants as shift
use Rattle.brs_grammar.specs.declared.tree.SumSign.{SumSign}
use Rattle.brs_grammar.specs.declared.tree.SumSign.TheVariants as sum

abbrev pub word : Word → Rule Tok
word k = One (same_word k)

abbrev pub name : Rule Tok
name = One is_name

abbrev pub name_of : Tok → Name
name_of t = record { place = place_of t; text = t.slice }

-- ---- line ends and separators

-- NL
unfoldable pub Blank : {A : Type 0} → Rule (List A)
Blank = do
  word w.Newline
  Pure []

-- { NL }
unfoldable pub Newlines : Rule (List (Unit {0}))
Newlines = Many Blank

-- gap = { NL } "," { NL } | NL { NL }
unfoldable pub CommaGap : {A : Type 0} → Rule (List A)
CommaGap = do
  Newlines
  word w.Comma
  Newlines
  Pure []

unfoldable pub NewlineGap : {A : Type 0} → Rule (List A)
NewlineGap = do
  word w.Newline
  Newlines
  Pure []

abbrev pub Gap : {A : Type 0} → Rule (List A)
Gap = Either CommaGap NewlineGap

-- endfun = "end" "function" | "endfunction"
unfoldable pub EndFunction : Rule Tok
EndFunction = Either (word w.EndWord >> word w.Function) (word w.EndFunction)

-- endsub = "end" "sub" | "endsub"
unfoldable pub EndSub : Rule Tok
EndSub = Either (word w.EndWord >> word w.Sub) (word w.EndSub)

-- ---- primary expressions without parts

-- prim = number
unfoldable pub Number : Rule Primary
Number = do
  t ← word w.Number
  Pure (primary.Number (place_of t) t.slice)

--      | text
unfoldable pub Text : Rule Primary
Text = do
  t ← word w.Text
  Pure (primary.Text (place_of t) t.slice)

--      | "true"
unfoldable pub True : Rule Primary
True = do
  t ← word w.True
  Pure (primary.True (place_of t))

--      | "false"
unfoldable pub False : Rule Primary
False = do
  t ← word w.False
  Pure (primary.False (place_of t))

--      | "invalid"
unfoldable pub Invalid : Rule Primary
Invalid = do
  t ← word w.Invalid
  Pure (primary.Invalid (place_of t))

--      | name
unfoldable pub Variable : Rule Primary
Variable = do
  t ← name
  Pure (primary.Variable (name_of t))

-- ---- keys and members

-- the key of a pair: word | text
unfoldable pub WordKey : Rule Key
WordKey = do
  t ← One is_word
  Pure (key.Word (name_of t))

unfoldable pub QuotedKey : Rule Key
QuotedKey = do
  t ← word w.Text
  Pure (key.Quoted (place_of t) t.slice)

abbrev pub AKey : Rule Key
AKey = Either WordKey QuotedKey

-- more = "." word
unfoldable pub Member : Rule (List Postfix)
Member = do
  t ← word w.Dot
  k ← One is_word
  Pure (postfix.Member (place_of t) (name_of k) ∷ [])

-- ---- signs

abbrev pub is_product_sign : Word → Bool
is_product_sign k = is_one_of (w.Star ∷ w.Backslash ∷ w.Mod ∷ []) k

abbrev pub product_sign : Word → ProductSign
product_sign k = if same_word w.Star k then product.Times else if same_word w.Backslash k then product.Divide else product.Modulo

abbrev pub is_sum_sign : Word → Bool
is_sum_sign k = is_one_of (w.Plus ∷ w.Minus ∷ []) k

abbrev pub sum_sign : Word → SumSign
sum_sign k = if same_word w.Plus k then sum.Plus else sum.Minus

abbrev pub is_shift_sign : Word → Bool
is_shift_sign k = is_one_of (w.ShiftLeft ∷ w.ShiftRight ∷ []) k

abbrev pub shift_sign : Word → ShiftSign
shift_sign k = if same_word w.ShiftLeft k then shift.Left else shift.Right

abbrev pub is_comparison_sign : Word → Bool
is_comparison_sign k = is_one_of (w.Equal ∷ w.NotEqual ∷ w.Less ∷ w.Greater ∷ w.LessEqual ∷ w.GreaterEqual ∷ []) k

abbrev pub comparison_sign : Word → ComparisonSign
comparison_sign k = if same_word w.Equal k then comparison.Equal else if same_word w.NotEqual k then comparison.NotEqual else if same_word w.Less k then comparison.Less else if same_word w.Greater k then comparison.Greater else if same_word w.LessEqual k then comparison.LessEqual else comparison.GreaterEqual
