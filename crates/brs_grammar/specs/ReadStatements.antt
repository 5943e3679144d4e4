-- What a parser with one token ahead reads of statements, form by form.
use Rattle.std.specs.Prelude.{ℕ, Bool, true, false, List, [], ◌∷◌, ◌++◌, Option}
use Rattle.brs_tokens.specs.declared.place.Place.{Place}
use Rattle.grammar_rules.specs.declared.word.Word.TheVariants as w
use Rattle.grammar_rules.specs.Words.{word_of, place_of, is_name}
use Rattle.grammar_rules.specs.Rules.{Ending}
use Rattle.grammar_rules.specs.Reading.{Parser, ◌>>=◌, ◌>>◌, pure, one, choose, many, optional, trail, ended, nested}
use Rattle.brs_grammar.specs.declared.tree.BlockArm.{BlockArm, roll-BlockArm}
use Rattle.brs_grammar.specs.declared.tree.Expression.{Expression}
use Rattle.brs_grammar.specs.declared.tree.LineArm.{LineArm, roll-LineArm}
use Rattle.brs_grammar.specs.declared.tree.Name.{Name}
use Rattle.brs_grammar.specs.declared.tree.PrintItem.{PrintItem}
use Rattle.brs_grammar.specs.declared.tree.PrintItem.TheVariants as printed
use Rattle.brs_grammar.specs.declared.tree.Simple.{Simple}
use Rattle.brs_grammar.specs.declared.tree.Simple.TheVariants as simple
use Rattle.brs_grammar.specs.declared.tree.Statement.{Statement}
use Rattle.brs_grammar.specs.declared.tree.Statement.TheVariants as statement
use Rattle.brs_grammar.specs.declared.tree.Target.{Target, roll-Target}
use Rattle.brs_grammar.specs.Expressions.{name_of}
use Rattle.brs_grammar.specs.Statements.{is_update_sign, update_sign, is_count_sign, count_sign, ends_in_call}
use Rattle.brs_grammar.specs.ReadExpressions as expression
use Rattle.brs_grammar.specs.ReadExpressions.{Inside, is, word, a_name, begins_expression, blank, end_function, end_sub}
unfoldable pub use Rattle.brs_grammar.specs.ReadStatementWords.{begins_separator, begins_end_for, begins_end_while, begins_end_if, begins_exit, begins_print_separator, begins_print, begins_simple, begins_line, begins_named, as_type, separator, end_for, end_while, end_if, then_, exit_for, exit_while, exit_two, exit_for_word, exit_while_word, exit, semicolon, comma, print_separator, more_separators, print_separators}

-- ---- what has parts, at a nesting number and with what stands inside them

module _ (depth : ℕ) (j : Inside) where
  abbrev an_expression : Parser Expression
  an_expression = expression.an_expression depth j

  unfoldable pub a_target : Parser Target
  a_target = do
    t ← a_name
    more ← expression.postfixes depth j
    pure (roll-Target (record { name = name_of t; more = more }))

  unfoldable pub assign : Target → Parser Simple
  assign x = do
    t ← word w.Equal
    e ← an_expression
    pure (simple.Assign x (place_of t) e)

  unfoldable pub update_ : Target → Parser Simple
  update_ x = do
    t ← one is_update_sign
    e ← an_expression
    pure (simple.Update x (place_of t) (update_sign (word_of t)) e)

  unfoldable pub count_ : Target → Parser Simple
  count_ x = do
    t ← one is_count_sign
    pure (simple.Count x (place_of t) (count_sign (word_of t)))

  abbrev pub target_rest : Target → Bool → Parser Simple
  target_rest x true = pure (simple.Call x)
  target_rest x false = choose (is w.Equal) (assign x) (choose is_update_sign (update_ x) (count_ x))

  unfoldable pub targeted : Parser Simple
  targeted = do
    x ← a_target
    target_rest x (ends_in_call x)

  unfoldable pub print_value : Parser (List PrintItem)
  print_value = do
    e ← an_expression
    pure (printed.Value e ∷ [])

  unfoldable pub next_values : Parser (List PrintItem)
  next_values = trail begins_print_separator begins_expression print_separators print_value

  unfoldable pub print_values : Parser (List PrintItem)
  print_values = do
    x ← print_value
    more ← next_values
    pure (x ++ more)

  unfoldable pub print_items : Parser (List PrintItem)
  print_items = do
    xs ← more_separators
    more ← choose begins_expression print_values (pure [])
    pure (xs ++ more)

  unfoldable pub print_ : Parser Simple
  print_ = do
    t ← choose (is w.Print) (word w.Print) (word w.Question)
    xs ← print_items
    pure (simple.Print (place_of t) xs)

  unfoldable pub return_ : Parser Simple
  return_ = do
    t ← word w.Return
    e ← optional begins_expression an_expression
    pure (simple.Return (place_of t) e)

  unfoldable pub a_simple : Parser Simple
  a_simple = choose is_name targeted (choose begins_print print_ (choose (is w.Return) return_ exit))

  unfoldable pub next_simple : Parser (List Simple)
  next_simple = do
    word w.Colon
    x ← a_simple
    pure (x ∷ [])

  unfoldable pub next_simples : Parser (List Simple)
  next_simples = many (is w.Colon) next_simple

  unfoldable pub run : Parser (List Simple)
  run = do
    x ← a_simple
    more ← next_simples
    pure (x ∷ more)

  unfoldable pub next_line_arm : Place → Parser (List LineArm)
  next_line_arm at = do
    e ← an_expression
    then_
    xs ← run
    pure (roll-LineArm (record { place = at; condition = e; run = xs }) ∷ [])

  unfoldable pub else_if_line_arm : Place → Parser (List LineArm)
  else_if_line_arm at = do
    word w.If
    next_line_arm at

  unfoldable pub line_ending : Parser (Ending LineArm (List Simple))
  line_ending =
      ended (is w.ElseIf) (is w.Else) (is w.If) (word w.ElseIf >>= λ t. next_line_arm (place_of t)) (word w.Else) (λ t. else_if_line_arm (place_of t)) (λ _. run)

  unfoldable pub next_block_arm : Place → Parser (List BlockArm)
  next_block_arm at = do
    e ← an_expression
    then_
    word w.Newline
    b ← j.block
    pure (roll-BlockArm (record { place = at; condition = e; block = b }) ∷ [])

  unfoldable pub else_if_block_arm : Place → Parser (List BlockArm)
  else_if_block_arm at = do
    word w.If
    next_block_arm at

  unfoldable pub block_else : Parser (List Statement)
  block_else = do
    word w.Newline
    j.block

  unfoldable pub block_ending : Parser (Ending BlockArm (List Statement))
  block_ending =
      ended (is w.ElseIf) (is w.Else) (is w.If) (word w.ElseIf >>= λ t. next_block_arm (place_of t)) (word w.Else) (λ t. else_if_block_arm (place_of t)) (λ _. block_else)

  -- behind the first condition of an `if`: a line end and a block, or statements in the line
  unfoldable pub block_if_rest : Place → Expression → Parser Statement
  block_if_rest at e = do
    word w.Newline
    b ← j.block
    x ← block_ending
    end_if
    pure (statement.BlockIf (roll-BlockArm (record { place = at; condition = e; block = b })) x.turns x.last)

  unfoldable pub line_if_rest : Place → Expression → Parser Statement
  line_if_rest at e = do
    xs ← run
    x ← line_ending
    pure (statement.LineIf (roll-LineArm (record { place = at; condition = e; run = xs })) x.turns x.last)

  unfoldable pub block_if_line : Place → Expression → Parser (List Statement)
  block_if_line at e = nested depth (do
    x ← block_if_rest at e
    separator
    pure (x ∷ []))

  unfoldable pub line_if_line : Place → Expression → Parser (List Statement)
  line_if_line at e = do
    x ← line_if_rest at e
    word w.Newline
    pure (x ∷ [])

  unfoldable pub if_line : Parser (List Statement)
  if_line = do
    t ← word w.If
    e ← an_expression
    then_
    choose (is w.Newline) (block_if_line (place_of t) e) (line_if_line (place_of t) e)

  unfoldable pub step : Parser Expression
  step = do
    word w.Step
    an_expression

  -- behind the variable of a `for`
  unfoldable pub for_body : Place → Name → Expression → Expression → Option Expression → Parser Statement
  for_body at x a b s = do
    separator
    xs ← j.block
    end_for
    pure (statement.For at x a b s xs)

  unfoldable pub for_rest : Place → Name → Parser Statement
  for_rest at x = do
    word w.Equal
    a ← an_expression
    word w.To
    b ← an_expression
    s ← optional (is w.Step) step
    for_body at x a b s

  -- behind `for each`
  unfoldable pub each_rest : Place → Parser Statement
  each_rest at = do
    x ← a_name
    word w.In
    e ← an_expression
    separator
    xs ← j.block
    end_for
    pure (statement.ForEach at (name_of x) e xs)

  -- `each` is the variable where `=` follows
  abbrev pub for_variable : Place → Name → Bool → Parser Statement
  for_variable at x true = choose (is w.Equal) (for_rest at x) (each_rest at)
  for_variable at x false = for_rest at x

  unfoldable pub for_ : Parser Statement
  for_ = nested depth (do
    t ← word w.For
    x ← a_name
    for_variable (place_of t) (name_of x) (is w.Each (word_of x)))

  unfoldable pub while_ : Parser Statement
  while_ = nested depth (do
    t ← word w.While
    e ← an_expression
    separator
    xs ← j.block
    end_while
    pure (statement.While (place_of t) e xs))

  unfoldable pub simple_statement : Parser Statement
  simple_statement = do
    x ← a_simple
    pure (statement.Simple x)

  -- a plain statement other than an `if`
  unfoldable pub other_plain : Parser Statement
  other_plain = choose begins_simple simple_statement (choose (is w.For) for_ while_)

  unfoldable pub other_line : Parser (List Statement)
  other_line = do
    x ← other_plain
    separator
    pure (x ∷ [])

  unfoldable pub empty_line : Parser (List Statement)
  empty_line = do
    separator
    pure []

  unfoldable pub line : Parser (List Statement)
  line = choose begins_separator empty_line (choose (is w.If) if_line other_line)

  unfoldable pub block : Parser (List Statement)
  block = many begins_line line
