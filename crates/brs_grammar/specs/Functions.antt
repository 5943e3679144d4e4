-- The grammar of parameters, functions and the file: for each form the token lists that spell it, and its tree.
-- A row stands above its form. Braces mean any number, brackets at most one.
use Rattle.std.specs.Prelude.{List, [], ◌∷◌, ◌++◌}
use Rattle.std.specs.Option.{option_to_list}
use Rattle.grammar_rules.specs.declared.word.Word.TheVariants as w
use Rattle.grammar_rules.specs.Words.{place_of}
use Rattle.grammar_rules.specs.Rules.{Rule, Pure, Either, Many, Optional, Ended, ◌>>=◌, ◌>>◌}
use Rattle.brs_grammar.specs.Expressions.{Inside, word, name, name_of, Blank, EndFunction, EndSub, AnExpression}
use Rattle.brs_grammar.specs.declared.tree.Expression.{Expression}
use Rattle.brs_grammar.specs.declared.tree.NamedFunction.{NamedFunction}
use Rattle.brs_grammar.specs.declared.tree.NamedFunction.TheVariants as named
use Rattle.brs_grammar.specs.declared.tree.Parameter.{Parameter, roll-Parameter}
use Rattle.brs_grammar.specs.declared.tree.Rest.{Rest, roll-Rest}
use Rattle.brs_grammar.specs.StatementWords.{AsType, Separator}
use Rattle.brs_grammar.specs.Statements.{Block}

module _ (i : Inside) where
  -- param = name [ "=" expr ] [ "as" type ]
  unfoldable pub Default : Rule Expression
  Default = do
    word w.Equal
    AnExpression i

  unfoldable pub AParameter : Rule Parameter
  AParameter = do
    t ← name
    d ← Optional Default
    k ← Optional AsType
    Pure (roll-Parameter (record { name = name_of t; default = d; kind = k }))

  unfoldable pub NextParameter : Rule (List Parameter)
  NextParameter = do
    word w.Comma
    x ← AParameter
    Pure (x ∷ [])

  -- [ param { "," param } ]
  unfoldable pub SomeParameters : Rule (List Parameter)
  SomeParameters = do
    x ← AParameter
    more ← Many NextParameter
    Pure (x ∷ more)

  abbrev pub AllParameters : Rule (List Parameter)
  AllParameters = Either SomeParameters (Pure [])

  -- rest = "(" [ param { "," param } ] ")" [ "as" type ] S block
  unfoldable pub ARest : Rule Rest
  ARest = do
    word w.Open
    xs ← AllParameters
    word w.Close
    k ← Optional AsType
    Separator
    b ← Block i
    Pure (roll-Rest (record { parameters = xs; value = k; body = b }))

  -- named = "function" name rest endfun
  unfoldable pub Function : Rule NamedFunction
  Function = do
    t ← word w.Function
    x ← name
    r ← ARest
    EndFunction
    Pure (named.Function (place_of t) (name_of x) r)

  --       | "sub" name rest endsub
  unfoldable pub Sub : Rule NamedFunction
  Sub = do
    t ← word w.Sub
    x ← name
    r ← ARest
    EndSub
    Pure (named.Sub (place_of t) (name_of x) r)

  abbrev pub Named : Rule NamedFunction
  Named = Either Function Sub

  -- file = { NL | named NL } [ named ] END
  unfoldable pub NamedLine : Rule (List NamedFunction)
  NamedLine = do
    x ← Named
    word w.Newline
    Pure (x ∷ [])

  unfoldable pub File : Rule (List NamedFunction)
  File = do
    x ← Ended (Either Blank NamedLine) Named
    Pure (x.turns ++ option_to_list x.last)
