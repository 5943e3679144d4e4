-- The grammar of a whole file, where 64 forms may stand inside one another.
use Rattle.std.specs.Prelude.{ℕ, zero, suc, List}
use Rattle.grammar_rules.specs.Rules.{Never}
use Rattle.grammar_rules.specs.Faults.{FirstFault}
use Rattle.brs_tokens.specs.Tok.{Tok}
use Rattle.brs_grammar.specs.declared.tree.NamedFunction.{NamedFunction}
use Rattle.brs_grammar.specs.Expressions.{Inside, AnExpression, AllArguments, AllItems, AllPairs, ANegation, AMinus}
use Rattle.brs_grammar.specs.Functions.{ARest, File}
use Rattle.brs_grammar.specs.Statements.{Block}

-- What stands inside at a nesting number: nothing at 0, and at any other the forms at the number below.
unfoldable pub inside : ℕ → Inside
inside zero = record { expression = Never; arguments = Never; items = Never; pairs = Never; negation = Never; minus = Never; block = Never; rest = Never }
inside (suc n) =
    let i = inside n in
    record {
      expression = AnExpression i;
      arguments = AllArguments i;
      items = AllItems i;
      pairs = AllPairs i;
      negation = ANegation i;
      minus = AMinus i;
      block = Block i;
      rest = ARest i;
    }

-- the nesting number of a file
abbrev pub file_number : ℕ
file_number = 64

-- these tokens are a file of these named functions
unfoldable pub IsFile : List Tok → List NamedFunction → Type 0
IsFile = File (inside file_number)

-- The token at this place, counted from 0, is the first such that no file begins with the tokens up to and including it; the end counts as a token.
abbrev pub IsFirstFault : List Tok → ℕ → Type 0
IsFirstFault = FirstFault (List NamedFunction) IsFile
