-- What a parser with one token ahead reads of the smallest forms, and the words that begin each form of an expression.
use Rattle.std.specs.Prelude.{Bool, ◌||◌, List, [], ◌∷◌}
use Rattle.grammar_rules.specs.declared.word.Word.{Word}
use Rattle.grammar_rules.specs.declared.word.Word.TheVariants as w
use Rattle.grammar_rules.specs.Words.{place_of, same_word, is_one_of, is_name, is_word}
use Rattle.grammar_rules.specs.Reading.{Parser, ◌>>=◌, ◌>>◌, pure, one, choose, many}
use Rattle.brs_tokens.specs.Tok.{Tok}
use Rattle.brs_grammar.specs.declared.tree.Key.{Key}
use Rattle.brs_grammar.specs.declared.tree.Key.TheVariants as key
use Rattle.brs_grammar.specs.declared.tree.Postfix.{Postfix}
use Rattle.brs_grammar.specs.declared.tree.Postfix.TheVariants as postfix
use Rattle.brs_grammar.specs.declared.tree.Primary.{Primary}
use Rattle.brs_grammar.specs.declared.tree.Primary.TheVariants as primary
use Rattle.brs_grammar.specs.Expressions.{name_of}

abbrev pub is : Word → Word → Bool
is = same_word

abbrev pub word : Word → Parser Tok
word k = one (is k)

abbrev pub a_name : Parser Tok
a_name = one is_name

-- ---- the words that begin a form

abbrev pub begins_gap : Word → Bool
begins_gap k = is w.Newline k || is w.Comma k

abbrev pub begins_end_function : Word → Bool
begins_end_function k = is w.EndWord k || is w.EndFunction k

abbrev pub begins_end_sub : Word → Bool
begins_end_sub k = is w.EndWord k || is w.EndSub k

abbrev pub begins_key : Word → Bool
begins_key k = is_word k || is w.Text k

abbrev pub begins_value : Word → Bool
begins_value k = is_one_of (w.Number ∷ w.Text ∷ w.True ∷ w.False ∷ w.Invalid ∷ w.Open ∷ w.OpenBracket ∷ w.OpenBrace ∷ w.Function ∷ w.Sub ∷ []) k || is_name k

abbrev pub begins_minus : Word → Bool
begins_minus k = is w.Minus k || begins_value k

abbrev pub begins_expression : Word → Bool
begins_expression k = is w.Not k || begins_minus k

abbrev pub begins_postfix : Word → Bool
begins_postfix k = is_one_of (w.Dot ∷ w.OpenBracket ∷ w.Open ∷ []) k

-- ---- forms

unfoldable pub blank : {A : Type 0} → Parser (List A)
blank = do
  word w.Newline
  pure []

unfoldable pub newlines : Parser (List (Unit {0}))
newlines = many (is w.Newline) blank

unfoldable pub comma_gap : {A : Type 0} → Parser (List A)
comma_gap = do
  word w.Comma
  newlines
  pure []

unfoldable pub newline_gap : {A : Type 0} → Parser (List A)
newline_gap = do
  word w.Newline
  newlines
  choose (is w.Comma) comma_gap (pure [])

unfoldable pub gap : {A : Type 0} → Parser (List A)
gap = choose (is w.Comma) comma_gap newline_gap

unfoldable pub end_function : Parser Tok
end_function = choose (is w.EndWord) (word w.EndWord >> word w.Function) (word w.EndFunction)

unfoldable pub end_sub : Parser Tok
end_sub = choose (is w.EndWord) (word w.EndWord >> word w.Sub) (word w.EndSub)

unfoldable pub number : Parser Primary
number = do
  t ← word w.Number
  pure (primary.Number (place_of t) t.slice)

unfoldable pub text : Parser Primary
text = do
  t ← word w.Text
  pure (primary.Text (place_of t) t.slice)

unfoldable pub true_ : Parser Primary
true_ = do
  t ← word w.True
  pure (primary.True (place_of t))

unfoldable pub false_ : Parser Primary
false_ = do
  t ← word w.False
  pure (primary.False (place_of t))

unfoldable pub invalid : Parser Primary
invalid = do
  t ← word w.Invalid
  pure (primary.Invalid (place_of t))

unfoldable pub variable : Parser Primary
variable = do
  t ← a_name
  pure (primary.Variable (name_of t))

unfoldable pub word_key : Parser Key
word_key = do
  t ← one is_word
  pure (key.Word (name_of t))

unfoldable pub quoted_key : Parser Key
quoted_key = do
  t ← word w.Text
  pure (key.Quoted (place_of t) t.slice)

unfoldable pub a_key : Parser Key
a_key = choose is_word word_key quoted_key

unfoldable pub member : Parser (List Postfix)
member = do
  t ← word w.Dot
  k ← one is_word
  pure (postfix.Member (place_of t) (name_of k) ∷ [])
