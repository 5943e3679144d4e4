-- The grammar of statements: for each form the token lists that spell it, and its tree.
-- A row stands above its form. Braces mean any number, brackets at most one. The rows go from the smallest forms up to the whole block.
use Rattle.std.specs.Prelude.{Bool, true, false, List, [], ◌∷◌, ◌++◌}
use Rattle.brs_tokens.specs.declared.place.Place.{Place}
use Rattle.grammar_rules.specs.declared.word.Word.TheVariants as w
use Rattle.grammar_rules.specs.Words.{word_of, place_of}
use Rattle.grammar_rules.specs.Rules.{Rule, One, Pure, Either, Many, Optional, Ended, Trailing, ◌>>=◌, ◌>>◌}
use Rattle.brs_grammar.specs.Expressions.{Inside, word, name, name_of, APostfix, AnExpression}
use Rattle.brs_grammar.specs.declared.tree.BlockArm.{BlockArm, roll-BlockArm}
use Rattle.brs_grammar.specs.declared.tree.Expression.{Expression}
use Rattle.brs_grammar.specs.declared.tree.LineArm.{LineArm, roll-LineArm}
use Rattle.brs_grammar.specs.declared.tree.Postfix.{Postfix, out-Postfix}
use Rattle.brs_grammar.specs.declared.tree.Minus.TheOpen as open_
use Rattle.brs_grammar.specs.declared.tree.PrintItem.{PrintItem}
use Rattle.brs_grammar.specs.declared.tree.PrintItem.TheVariants as printed
use Rattle.brs_grammar.specs.declared.tree.Simple.{Simple}
use Rattle.brs_grammar.specs.declared.tree.Simple.TheVariants as simple
use Rattle.brs_grammar.specs.declared.tree.Statement.{Statement}
use Rattle.brs_grammar.specs.declared.tree.Statement.TheVariants as statement
use Rattle.brs_grammar.specs.declared.tree.Target.{Target, roll-Target, out-Target}
unfoldable pub use Rattle.brs_grammar.specs.StatementWords.{is_type, type_of, AsType, Separator, EndFor, EndWhile, EndIf, Then, Elif, ExitFor, ExitWhile, ExitForWord, ExitWhileWord, Exit, Semicolon, Comma, PrintSeparator, PrintSeparators, is_update_sign, update_sign, is_count_sign, count_sign}

-- ---- whether a name and what stands behind it end in a call

abbrev pub is_call : Postfix → Bool
is_call x = elim (out-Postfix x) [ open_.Arguments at xs ↦ true | _ ↦ false ]

abbrev pub last_is_call : List Postfix → Bool
last_is_call [] = false
last_is_call (x ∷ xs) = elim xs [ [] ↦ is_call x | _ ∷ _ ↦ last_is_call xs ]

abbrev pub ends_in_call : Target → Bool
ends_in_call t = last_is_call (out-Target t).more

-- ---- what has parts, with what stands inside them

module _ (i : Inside) where
  -- name { more }
  unfoldable pub ATarget : Rule Target
  ATarget = do
    t ← name
    more ← Many (APostfix i)
    Pure (roll-Target (record { name = name_of t; more = more }))

  -- simple = target "=" expr
  unfoldable pub Assign : Target → Rule Simple
  Assign x = do
    t ← word w.Equal
    e ← AnExpression i
    Pure (simple.Assign x (place_of t) e)

  --        | target ("+=" | "-=" | "*=" | "\=") expr
  unfoldable pub Update : Target → Rule Simple
  Update x = do
    t ← One is_update_sign
    e ← AnExpression i
    Pure (simple.Update x (place_of t) (update_sign (word_of t)) e)

  --        | target ("++" | "--")
  unfoldable pub Count : Target → Rule Simple
  Count x = do
    t ← One is_count_sign
    Pure (simple.Count x (place_of t) (count_sign (word_of t)))

  --        | callform
  -- callform = name { more } that ends in a call, target = name { more } that doesn't
  abbrev pub TargetRest : Target → Bool → Rule Simple
  TargetRest x true = Pure (simple.Call x)
  TargetRest x false = Either (Assign x) (Either (Update x) (Count x))

  unfoldable pub Targeted : Rule Simple
  Targeted = do
    x ← ATarget
    TargetRest x (ends_in_call x)

  -- items = { sep } [ expr { sep { sep } expr } { sep } ]
  unfoldable pub PrintValue : Rule (List PrintItem)
  PrintValue = do
    e ← AnExpression i
    Pure (printed.Value e ∷ [])

  unfoldable pub PrintValues : Rule (List PrintItem)
  PrintValues = do
    x ← PrintValue
    more ← Trailing PrintSeparators PrintValue
    Pure (x ++ more)

  unfoldable pub PrintItems : Rule (List PrintItem)
  PrintItems = do
    xs ← Many PrintSeparator
    more ← Either PrintValues (Pure [])
    Pure (xs ++ more)

  --        | ("print" | "?") items
  unfoldable pub Print : Rule Simple
  Print = do
    t ← Either (word w.Print) (word w.Question)
    xs ← PrintItems
    Pure (simple.Print (place_of t) xs)

  --        | "return" [ expr ]
  unfoldable pub Return : Rule Simple
  Return = do
    t ← word w.Return
    e ← Optional (AnExpression i)
    Pure (simple.Return (place_of t) e)

  --        | exit
  abbrev pub ASimple : Rule Simple
  ASimple = Either Targeted (Either Print (Either Return Exit))

  -- run = simple { ":" simple }
  unfoldable pub NextSimple : Rule (List Simple)
  NextSimple = do
    word w.Colon
    x ← ASimple
    Pure (x ∷ [])

  unfoldable pub Run : Rule (List Simple)
  Run = do
    x ← ASimple
    more ← Many NextSimple
    Pure (x ∷ more)

  -- lineif = "if" tail
  -- tail = expr [ "then" ] run [ "else" run | elif tail ]: an arm, further arms, and at most one `else`
  unfoldable pub NextLineArm : Place → Rule (List LineArm)
  NextLineArm at = do
    e ← AnExpression i
    Then
    xs ← Run
    Pure (roll-LineArm (record { place = at; condition = e; run = xs }) ∷ [])

  unfoldable pub LineElse : Rule (List Simple)
  LineElse = do
    word w.Else
    Run

  unfoldable pub LineIf : Rule Statement
  LineIf = do
    t ← word w.If
    e ← AnExpression i
    Then
    xs ← Run
    x ← Ended (Elif NextLineArm) LineElse
    Pure (statement.LineIf (roll-LineArm (record { place = place_of t; condition = e; run = xs })) x.turns x.last)

  -- blockif = "if" expr [ "then" ] NL block { elif expr [ "then" ] NL block } [ "else" NL block ] ("end" "if" | "endif")
  unfoldable pub NextBlockArm : Place → Rule (List BlockArm)
  NextBlockArm at = do
    e ← AnExpression i
    Then
    word w.Newline
    b ← i.block
    Pure (roll-BlockArm (record { place = at; condition = e; block = b }) ∷ [])

  unfoldable pub BlockElse : Rule (List Statement)
  BlockElse = do
    word w.Else
    word w.Newline
    i.block

  unfoldable pub BlockIf : Rule Statement
  BlockIf = do
    t ← word w.If
    e ← AnExpression i
    Then
    word w.Newline
    b ← i.block
    x ← Ended (Elif NextBlockArm) BlockElse
    EndIf
    Pure (statement.BlockIf (roll-BlockArm (record { place = place_of t; condition = e; block = b })) x.turns x.last)

  -- for = "for" name "=" expr "to" expr [ "step" expr ] S block endfor
  unfoldable pub Step : Rule Expression
  Step = do
    word w.Step
    AnExpression i

  unfoldable pub For : Rule Statement
  For = do
    t ← word w.For
    x ← name
    word w.Equal
    a ← AnExpression i
    word w.To
    b ← AnExpression i
    s ← Optional Step
    Separator
    xs ← i.block
    EndFor
    Pure (statement.For (place_of t) (name_of x) a b s xs)

  -- foreach = "for" "each" name "in" expr S block endfor
  unfoldable pub ForEach : Rule Statement
  ForEach = do
    t ← word w.For
    word w.Each
    x ← name
    word w.In
    e ← AnExpression i
    Separator
    xs ← i.block
    EndFor
    Pure (statement.ForEach (place_of t) (name_of x) e xs)

  -- while = "while" expr S block ("end" "while" | "endwhile")
  unfoldable pub While : Rule Statement
  While = do
    t ← word w.While
    e ← AnExpression i
    Separator
    xs ← i.block
    EndWhile
    Pure (statement.While (place_of t) e xs)

  -- plain = simple | blockif | for | foreach | while
  unfoldable pub SimpleStatement : Rule Statement
  SimpleStatement = do
    x ← ASimple
    Pure (statement.Simple x)

  abbrev pub Plain : Rule Statement
  Plain = Either SimpleStatement (Either BlockIf (Either For (Either ForEach While)))

  -- block = { S | plain S | lineif NL }
  unfoldable pub EmptyLine : Rule (List Statement)
  EmptyLine = do
    Separator
    Pure []

  unfoldable pub PlainLine : Rule (List Statement)
  PlainLine = do
    x ← Plain
    Separator
    Pure (x ∷ [])

  unfoldable pub LineIfLine : Rule (List Statement)
  LineIfLine = do
    x ← LineIf
    word w.Newline
    Pure (x ∷ [])

  unfoldable pub Block : Rule (List Statement)
  Block = Many (Either EmptyLine (Either PlainLine LineIfLine))
