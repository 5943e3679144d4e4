-- What a parser with one token ahead reads of functions and of a file, form by form.
use Rattle.std.specs.Prelude.{ℕ, zero, suc, List, [], ◌∷◌, ◌++◌}
use Rattle.std.specs.Option.{option_to_list}
use Rattle.grammar_rules.specs.declared.word.Word.TheVariants as w
use Rattle.grammar_rules.specs.Words.{place_of, is_name}
use Rattle.grammar_rules.specs.Rules.{Ending}
use Rattle.grammar_rules.specs.Reading.{Parser, ◌>>=◌, ◌>>◌, pure, refuse, choose, many, optional, ended, whole}
use Rattle.brs_grammar.specs.declared.tree.Expression.{Expression}
use Rattle.brs_grammar.specs.declared.tree.NamedFunction.{NamedFunction}
use Rattle.brs_grammar.specs.declared.tree.NamedFunction.TheVariants as named
use Rattle.brs_grammar.specs.declared.tree.Parameter.{Parameter, roll-Parameter}
use Rattle.brs_grammar.specs.declared.tree.Rest.{Rest, roll-Rest}
use Rattle.brs_grammar.specs.Expressions.{name_of}
use Rattle.brs_grammar.specs.ReadExpressions as expression
use Rattle.brs_grammar.specs.ReadExpressions.{Inside, is, word, a_name, begins_expression, blank, end_function, end_sub}
use Rattle.brs_grammar.specs.Grammar.{file_number}
use Rattle.brs_grammar.specs.ReadStatementWords.{begins_named, as_type, separator}
use Rattle.brs_grammar.specs.ReadStatements.{block}

module _ (depth : ℕ) (j : Inside) where
  abbrev an_expression : Parser Expression
  an_expression = expression.an_expression depth j

  unfoldable pub default_value : Parser Expression
  default_value = do
    word w.Equal
    an_expression

  unfoldable pub a_parameter : Parser Parameter
  a_parameter = do
    t ← a_name
    d ← optional (is w.Equal) default_value
    k ← optional (is w.As) as_type
    pure (roll-Parameter (record { name = name_of t; default = d; kind = k }))

  unfoldable pub next_parameter : Parser (List Parameter)
  next_parameter = do
    word w.Comma
    x ← a_parameter
    pure (x ∷ [])

  unfoldable pub next_parameters : Parser (List Parameter)
  next_parameters = many (is w.Comma) next_parameter

  unfoldable pub some_parameters : Parser (List Parameter)
  some_parameters = do
    x ← a_parameter
    more ← next_parameters
    pure (x ∷ more)

  unfoldable pub all_parameters : Parser (List Parameter)
  all_parameters = choose is_name some_parameters (pure [])

  unfoldable pub a_rest : Parser Rest
  a_rest = do
    word w.Open
    xs ← all_parameters
    word w.Close
    k ← optional (is w.As) as_type
    separator
    b ← block depth j
    pure (roll-Rest (record { parameters = xs; value = k; body = b }))

  unfoldable pub function : Parser NamedFunction
  function = do
    t ← word w.Function
    x ← a_name
    r ← a_rest
    end_function
    pure (named.Function (place_of t) (name_of x) r)

  unfoldable pub sub : Parser NamedFunction
  sub = do
    t ← word w.Sub
    x ← a_name
    r ← a_rest
    end_sub
    pure (named.Sub (place_of t) (name_of x) r)

  unfoldable pub named_function : Parser NamedFunction
  named_function = choose (is w.Function) function sub

  -- a line end behind a named function
  unfoldable pub named_line : NamedFunction → Parser (List NamedFunction)
  named_line x = do
    word w.Newline
    pure (x ∷ [])

  unfoldable pub file_ending : Parser (Ending NamedFunction NamedFunction)
  file_ending = ended (is w.Newline) begins_named (is w.Newline) blank named_function named_line pure

  unfoldable pub functions : Parser (List NamedFunction)
  functions = do
    x ← file_ending
    pure (x.turns ++ option_to_list x.last)

-- what stands inside, at a nesting number: nothing at 0
unfoldable pub inside : ℕ → Inside
inside zero = record { expression = refuse; arguments = refuse; items = refuse; pairs = refuse; negation = refuse; minus = refuse; block = refuse; rest = refuse }
inside (suc n) =
    let j = inside n in
    record {
      expression = expression.an_expression n j;
      arguments = expression.all_arguments n j;
      items = expression.all_items n j;
      pairs = expression.all_pairs n j;
      negation = expression.a_negation n j;
      minus = expression.a_minus n j;
      block = block n j;
      rest = a_rest n j;
    }

-- a form at a nesting number
abbrev pub at : {A : Type 0} → (ℕ → Inside → A) → ℕ → A
at form n = form n (inside n)

unfoldable pub file : Parser (List NamedFunction)
file = whole (at functions file_number)
