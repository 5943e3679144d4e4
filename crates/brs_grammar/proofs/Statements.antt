-- Each reading of a statement reads the form of its name.
use Rattle.std.proofs.Common.{ℕ, zero, suc, Bool, true, false, inl, inr, List, [], ◌∷◌, refl}
use Rattle.brs_tokens.specs.declared.place.Place.{Place}
use Rattle.grammar_rules.specs.declared.word.Word.TheVariants as w
use Rattle.grammar_rules.specs.Words.{word_of, place_of, same_word, is_name}
use Rattle.grammar_rules.specs.Rules.{Pure, Either, Ending, Ended, ◌>>=◌, ◌>>◌}
use Rattle.grammar_rules.proofs.Meets.{Meets}
use Rattle.grammar_rules.proofs.Same.{good_same, may_be_null, same_either, same_self}
use Rattle.grammar_rules.proofs.Good.{Good, any, one_good, class_good, pure_good, then_good, many_good, either_by, either_good, either_good_first, meets_as, good_as, absent}
use Rattle.grammar_rules.proofs.Rows.{optional_good, trailing_good, ended_good}
use Rattle.brs_tokens.specs.Tok.{Tok}
use Rattle.brs_grammar.specs.declared.tree.BlockArm.{BlockArm}
use Rattle.brs_grammar.specs.declared.tree.Expression.{Expression}
use Rattle.brs_grammar.specs.declared.tree.LineArm.{LineArm}
use Rattle.brs_grammar.specs.declared.tree.Name.{Name}
use Rattle.brs_grammar.specs.declared.tree.PrintItem.{PrintItem}
use Rattle.brs_grammar.specs.declared.tree.Simple.{Simple}
use Rattle.brs_grammar.specs.declared.tree.Statement.{Statement}
use Rattle.brs_grammar.specs.declared.tree.Target.{Target}
use Rattle.brs_grammar.specs.Expressions as X
use Rattle.brs_grammar.specs.Expressions.{name_of}
use Rattle.brs_grammar.specs.Statements as G
use Rattle.brs_grammar.specs.Statements.{is_type, is_update_sign, is_count_sign, ends_in_call}
use Rattle.brs_grammar.specs.ReadExpressions as R
use Rattle.brs_grammar.specs.ReadExpressions.{is, begins_expression}
use Rattle.brs_grammar.specs.ReadStatements as S
use Rattle.brs_grammar.specs.ReadStatements.{begins_separator, begins_end_for, begins_end_while, begins_end_if, begins_exit, begins_print_separator, begins_print, begins_simple, begins_line, begins_named}
use Rattle.brs_grammar.proofs.Expressions.{Within, stops_value, stops_expression, stops_block, a_postfix_good, an_expression_good}
use Rattle.brs_grammar.proofs.StatementWords.{begins_target_rest, stops_print, begins_print_items, stops_return, stops_run, begins_else, stops_line_ending, stops_block_ending, begins_other_plain, begins_for_variable, begins_if_rest, separator_good, end_for_good, end_while_good, end_if_good, then_good_, exit_good, print_separator_good, print_separators_good}
use Rattle.brs_grammar.proofs.Beginnings.{BlockIfRest, LineIfRest, IfLine, ForRest, EachRest, ForVariable, AnyFor, OtherPlain, OtherLine, lines}

-- ---- what has parts

module _ (i : X.Inside) (j : R.Inside) where
  pub a_target_good : (n : ℕ) → Within n i j → Good Target (G.ATarget i) false is_name stops_value (S.a_target n j)
  unfolding same_word G.ATarget S.a_target R.postfixes
  a_target_good n inner = good_as is_name stops_value (then_good (class_good is_name w.Name refl refl refl) (λ t. then_good (many_good (a_postfix_good i j n inner).meets refl refl) (λ more. pure_good _) refl) refl) refl refl

  pub assign_good : (n : ℕ) → Within n i j → (x : Target) → Good Simple (G.Assign i x) false (is w.Equal) stops_expression (S.assign n j x)
  unfolding same_word G.Assign S.assign
  assign_good n inner x = good_as (is w.Equal) stops_expression (then_good (one_good w.Equal refl refl) (λ t. then_good (an_expression_good i j n inner) (λ e. pure_good _) refl) refl) refl refl

  pub update__good : (n : ℕ) → Within n i j → (x : Target) → Good Simple (G.Update i x) false is_update_sign stops_expression (S.update_ n j x)
  unfolding same_word G.Update S.update_
  update__good n inner x = good_as is_update_sign stops_expression (then_good (class_good is_update_sign w.PlusEqual refl refl refl) (λ t. then_good (an_expression_good i j n inner) (λ e. pure_good _) refl) refl) refl refl

  pub count__good : (n : ℕ) → Within n i j → (x : Target) → Good Simple (G.Count i x) false is_count_sign any (S.count_ n j x)
  unfolding same_word G.Count S.count_
  count__good n inner x = good_as is_count_sign any (then_good (class_good is_count_sign w.PlusPlus refl refl refl) (λ t. pure_good _) refl) refl refl

  -- both cases have one set of words: nothing may follow a call, and a sign begins the others
  target_rest_good : (n : ℕ) → Within n i j → (x : Target) (b : Bool) → Good Simple (G.TargetRest i x b) true begins_target_rest stops_expression (S.target_rest n j x b)
  unfolding same_word
  target_rest_good n inner x true = good_as begins_target_rest stops_expression (pure_good _) refl refl
  target_rest_good n inner x false =
      let g = good_as begins_target_rest stops_expression (either_good (assign_good n inner x).meets (either_good (update__good n inner x).meets (count__good n inner x) refl) refl) refl refl in
      record { meets = may_be_null false g.meets; some = g.some }

  pub targeted_good : (n : ℕ) → Within n i j → Good Simple (G.Targeted i) false is_name stops_expression (S.targeted n j)
  unfolding same_word G.Targeted S.targeted
  targeted_good n inner = good_as is_name stops_expression (then_good (a_target_good n inner) (λ x. target_rest_good n inner x (ends_in_call x)) refl) refl refl

  pub print_value_good : (n : ℕ) → Within n i j → Good (List PrintItem) (G.PrintValue i) false begins_expression stops_expression (S.print_value n j)
  unfolding same_word G.PrintValue S.print_value
  print_value_good n inner = good_as begins_expression stops_expression (then_good (an_expression_good i j n inner) (λ e. pure_good _) refl) refl refl

  pub print_values_good : (n : ℕ) → Within n i j → Good (List PrintItem) (G.PrintValues i) false begins_expression stops_print (S.print_values n j)
  unfolding same_word G.PrintValues S.print_values S.next_values
  print_values_good n inner = good_as begins_expression stops_print (then_good (print_value_good n inner) (λ x. then_good (trailing_good print_separators_good (print_value_good n inner) refl refl refl) (λ more. pure_good _) refl) refl) refl refl

  pub print_items_good : (n : ℕ) → Within n i j → Good (List PrintItem) (G.PrintItems i) true begins_print_items stops_print (S.print_items n j)
  unfolding same_word G.PrintItems S.print_items S.more_separators
  print_items_good n inner = good_as begins_print_items stops_print (then_good (many_good (print_separator_good).meets refl refl) (λ xs. then_good (either_good (print_values_good n inner).meets (pure_good _) refl) (λ more. pure_good _) refl) refl) refl refl

  pub print__good : (n : ℕ) → Within n i j → Good Simple (G.Print i) false begins_print stops_print (S.print_ n j)
  unfolding same_word G.Print S.print_
  print__good n inner = good_as begins_print stops_print (then_good (either_good (one_good w.Print refl refl).meets (one_good w.Question refl refl) refl) (λ t. then_good (print_items_good n inner) (λ xs. pure_good _) refl) refl) refl refl

  pub return__good : (n : ℕ) → Within n i j → Good Simple (G.Return i) false (is w.Return) stops_return (S.return_ n j)
  unfolding same_word G.Return S.return_
  return__good n inner = good_as (is w.Return) stops_return (then_good (one_good w.Return refl refl) (λ t. then_good (optional_good (an_expression_good i j n inner).meets) (λ e. pure_good _) refl) refl) refl refl

  pub a_simple_good : (n : ℕ) → Within n i j → Good Simple (G.ASimple i) false begins_simple stops_print (S.a_simple n j)
  unfolding same_word S.a_simple
  a_simple_good n inner = good_as begins_simple stops_print (either_good (targeted_good n inner).meets (either_good (print__good n inner).meets (either_good (return__good n inner).meets exit_good refl) refl) refl) refl refl

  pub next_simple_good : (n : ℕ) → Within n i j → Good (List Simple) (G.NextSimple i) false (is w.Colon) stops_print (S.next_simple n j)
  unfolding same_word G.NextSimple S.next_simple
  next_simple_good n inner = good_as (is w.Colon) stops_print (then_good (one_good w.Colon refl refl) (λ _. then_good (a_simple_good n inner) (λ x. pure_good _) refl) refl) refl refl

  pub run_good : (n : ℕ) → Within n i j → Good (List Simple) (G.Run i) false begins_simple stops_run (S.run n j)
  unfolding same_word G.Run S.run S.next_simples
  run_good n inner = good_as begins_simple stops_run (then_good (a_simple_good n inner) (λ x. then_good (many_good (next_simple_good n inner).meets refl refl) (λ more. pure_good _) refl) refl) refl refl

  pub next_line_arm_good : (n : ℕ) → Within n i j → (at : Place) → Good (List LineArm) (G.NextLineArm i at) false begins_expression stops_run (S.next_line_arm n j at)
  unfolding same_word G.NextLineArm S.next_line_arm
  next_line_arm_good n inner at = good_as begins_expression stops_run (then_good (an_expression_good i j n inner) (λ e. then_good (then_good_) (λ _. then_good (run_good n inner) (λ xs. pure_good _) refl) refl) refl) refl refl

  line_ending_good : (n : ℕ) → Within n i j
      → Good (Ending LineArm (List Simple)) (Ended (G.Elif (G.NextLineArm i)) (G.LineElse i)) true begins_else stops_line_ending (S.line_ending n j)
  unfolding same_word G.LineElse S.line_ending S.else_if_line_arm
  line_ending_good n inner =
      good_as begins_else stops_line_ending
      (ended_good
      (good_as (is w.ElseIf) stops_run (then_good (one_good w.ElseIf refl refl) (λ t. next_line_arm_good n inner (place_of t)) refl) refl refl)
      (one_good w.Else refl refl)
      (λ t. good_as (is w.If) stops_run (then_good (one_good w.If refl refl) (λ _. next_line_arm_good n inner (place_of t)) refl) refl refl)
      (λ _. run_good n inner) refl refl refl refl refl refl refl)
      refl refl

  next_block_arm_good : (n : ℕ) → Within (suc n) i j → (at : Place) → Good (List BlockArm) (G.NextBlockArm i at) false begins_expression stops_block (S.next_block_arm (suc n) j at)
  unfolding same_word G.NextBlockArm S.next_block_arm
  next_block_arm_good n inner at =
      good_as begins_expression stops_block
      (then_good (an_expression_good i j (suc n) inner) (λ e. then_good then_good_ (λ _. then_good (one_good w.Newline refl refl) (λ _. then_good inner.block (λ b. pure_good _) refl) refl) refl) refl)
      refl refl

  block_else_good : (n : ℕ) → Within (suc n) i j → Good (List Statement) (X.word w.Newline >> i.block) false (is w.Newline) stops_block (S.block_else (suc n) j)
  unfolding same_word S.block_else
  block_else_good n inner = good_as (is w.Newline) stops_block (then_good (one_good w.Newline refl refl) (λ _. inner.block) refl) refl refl

  block_ending_good : (n : ℕ) → Within (suc n) i j
      → Good (Ending BlockArm (List Statement)) (Ended (G.Elif (G.NextBlockArm i)) (G.BlockElse i)) true begins_else stops_block_ending (S.block_ending (suc n) j)
  unfolding same_word G.BlockElse S.block_ending S.else_if_block_arm
  block_ending_good n inner =
      good_as begins_else stops_block_ending
      (ended_good
      (good_as (is w.ElseIf) stops_block (then_good (one_good w.ElseIf refl refl) (λ t. next_block_arm_good n inner (place_of t)) refl) refl refl)
      (one_good w.Else refl refl)
      (λ t. good_as (is w.If) stops_block (then_good (one_good w.If refl refl) (λ _. next_block_arm_good n inner (place_of t)) refl) refl refl)
      (λ _. block_else_good n inner) refl refl refl refl refl refl refl)
      refl refl

  block_if_rest_good : (n : ℕ) → Within (suc n) i j → (at : Place) (e : Expression) → Good Statement (BlockIfRest i at e) false (is w.Newline) any (S.block_if_rest (suc n) j at e)
  unfolding same_word S.block_if_rest
  block_if_rest_good n inner at e =
      good_as (is w.Newline) any
      (then_good (one_good w.Newline refl refl) (λ _. then_good inner.block (λ b. then_good (block_ending_good n inner) (λ x. then_good end_if_good (λ _. pure_good _) refl) refl) refl) refl)
      refl refl

  block_if_line_meets : (n : ℕ) → Within n i j → (at : Place) (e : Expression)
      → Meets (List Statement) (BlockIfRest i at e >>= λ x. G.Separator >> Pure (x ∷ [])) false (is w.Newline) any (S.block_if_line n j at e)
  unfolding same_word S.block_if_line
  block_if_line_meets zero inner at e = absent false (is w.Newline) any (λ ts a x. inner.no_block _ _ x.first.second.first)
  block_if_line_meets (suc n) inner at e =
      meets_as (is w.Newline) any (then_good (block_if_rest_good n inner at e) (λ x. then_good separator_good (λ _. pure_good _) refl) refl).meets refl refl

  line_if_rest_good : (n : ℕ) → Within n i j → (at : Place) (e : Expression) → Good Statement (LineIfRest i at e) false begins_simple stops_line_ending (S.line_if_rest n j at e)
  unfolding same_word S.line_if_rest
  line_if_rest_good n inner at e =
      good_as begins_simple stops_line_ending (then_good (run_good n inner) (λ xs. then_good (line_ending_good n inner) (λ x. pure_good _) refl) refl) refl refl

  line_if_line_good : (n : ℕ) → Within n i j → (at : Place) (e : Expression)
      → Good (List Statement) (LineIfRest i at e >>= λ x. X.word w.Newline >> Pure (x ∷ [])) false begins_simple any (S.line_if_line n j at e)
  unfolding same_word S.line_if_line
  line_if_line_good n inner at e =
      good_as begins_simple any (then_good (line_if_rest_good n inner at e) (λ x. then_good (one_good w.Newline refl refl) (λ _. pure_good _) refl) refl) refl refl

  if_line_good : (n : ℕ) → Within n i j → Good (List Statement) (IfLine i) false (is w.If) any (S.if_line n j)
  unfolding same_word S.if_line
  if_line_good n inner =
      good_as (is w.If) any
      (then_good (one_good w.If refl refl) (λ t. then_good (an_expression_good i j n inner) (λ e. then_good then_good_ (λ _.
      good_as begins_if_rest any (either_good (block_if_line_meets n inner (place_of t) e) (line_if_line_good n inner (place_of t) e) refl) refl refl)
      refl) refl) refl)
      refl refl

  step_good : (n : ℕ) → Within n i j → Good Expression (G.Step i) false (is w.Step) stops_expression (S.step n j)
  unfolding same_word G.Step S.step
  step_good n inner = good_as (is w.Step) stops_expression (then_good (one_good w.Step refl refl) (λ _. an_expression_good i j n inner) refl) refl refl

  for_rest_good : (n : ℕ) → Within (suc n) i j → (at : Place) (x : Name) → Good Statement (ForRest i at x) false (is w.Equal) any (S.for_rest (suc n) j at x)
  unfolding same_word S.for_rest S.for_body
  for_rest_good n inner at x =
      good_as (is w.Equal) any
      (then_good (one_good w.Equal refl refl) (λ _. then_good (an_expression_good i j (suc n) inner) (λ a. then_good (one_good w.To refl refl) (λ _. then_good (an_expression_good i j (suc n) inner) (λ b.
      then_good (optional_good (step_good (suc n) inner).meets) (λ s. then_good separator_good (λ _. then_good inner.block (λ xs. then_good end_for_good (λ _. pure_good _) refl) refl) refl) refl) refl) refl) refl) refl)
      refl refl

  each_rest_good : (n : ℕ) → Within (suc n) i j → (at : Place) → Good Statement (EachRest i at) false is_name any (S.each_rest (suc n) j at)
  unfolding same_word S.each_rest
  each_rest_good n inner at =
      good_as is_name any
      (then_good (class_good is_name w.Name refl refl refl) (λ x. then_good (one_good w.In refl refl) (λ _. then_good (an_expression_good i j (suc n) inner) (λ e.
      then_good separator_good (λ _. then_good inner.block (λ xs. then_good end_for_good (λ _. pure_good _) refl) refl) refl) refl) refl) refl)
      refl refl

  for_variable_good : (n : ℕ) → Within (suc n) i j → (at : Place) (x : Name) (b : Bool)
      → Good Statement (ForVariable i at x b) false begins_for_variable any (S.for_variable (suc n) j at x b)
  unfolding same_word
  for_variable_good n inner at x true = good_as begins_for_variable any (either_good (for_rest_good n inner at x).meets (each_rest_good n inner at) refl) refl refl
  for_variable_good n inner at x false = good_as begins_for_variable any (for_rest_good n inner at x) refl refl

  for_meets : (n : ℕ) → Within n i j → Meets Statement (AnyFor i) false (is w.For) any (S.for_ n j)
  unfolding same_word S.for_
  for_meets zero inner = absent false (is w.For) any (λ ts a x. none _ _ _ _ _ x.second.second)
    where
      none : (at : Place) (x : Name) (b : Bool) (ts : List Tok) (a : Statement) → ForVariable i at x b ts a → ⊥
      none at x true ts a (inl y) = inner.no_block _ _ y.second.second.second.second.second.second.first
      none at x true ts a (inr y) = inner.no_block _ _ y.second.second.second.second.first
      none at x false ts a y = inner.no_block _ _ y.second.second.second.second.second.second.first
  for_meets (suc n) inner =
      meets_as (is w.For) any
      (then_good (one_good w.For refl refl) (λ t. then_good (class_good is_name w.Name refl refl refl) (λ x. for_variable_good n inner (place_of t) (name_of x) (is w.Each (word_of x))) refl) refl).meets
      refl refl

  pub while__meets : (n : ℕ) → Within n i j → Meets Statement (G.While i) false (is w.While) any (S.while_ n j)
  unfolding same_word G.While S.while_
  while__meets zero inner = absent false (is w.While) any (λ ts a x. inner.no_block _ _ x.second.second.second.first)
  while__meets (suc n) inner =
      meets_as (is w.While) any (then_good (one_good w.While refl refl) (λ t. then_good (an_expression_good i j (suc n) inner) (λ e. then_good (separator_good) (λ _. then_good (inner.block) (λ xs. then_good (end_while_good) (λ _. pure_good _) refl) refl) refl) refl) refl).meets refl refl

  pub simple_statement_good : (n : ℕ) → Within n i j → Good Statement (G.SimpleStatement i) false begins_simple stops_print (S.simple_statement n j)
  unfolding same_word G.SimpleStatement S.simple_statement
  simple_statement_good n inner = good_as begins_simple stops_print (then_good (a_simple_good n inner) (λ x. pure_good _) refl) refl refl

  other_plain_good : (n : ℕ) → Within n i j → Good Statement (OtherPlain i) false begins_other_plain stops_print (S.other_plain n j)
  unfolding same_word S.other_plain
  other_plain_good n inner =
      good_as begins_other_plain stops_print (either_good_first (simple_statement_good n inner) (either_by (for_meets n inner) (while__meets n inner) refl) refl) refl refl

  other_line_good : (n : ℕ) → Within n i j → Good (List Statement) (OtherLine i) false begins_other_plain any (S.other_line n j)
  unfolding same_word S.other_line
  other_line_good n inner =
      good_as begins_other_plain any (then_good (other_plain_good n inner) (λ x. then_good separator_good (λ _. pure_good _) refl) refl) refl refl

  pub empty_line_good : (n : ℕ) → Within n i j → Good (List Statement) (G.EmptyLine i) false begins_separator any (S.empty_line n j)
  unfolding same_word G.EmptyLine S.empty_line
  empty_line_good n inner = good_as begins_separator any (then_good (separator_good) (λ _. pure_good _) refl) refl refl

  line_good : (n : ℕ) → Within n i j → Good (List Statement) (Either (G.EmptyLine i) (Either (G.PlainLine i) (G.LineIfLine i))) false begins_line any (S.line n j)
  unfolding same_word S.line
  line_good n inner =
      good_same (same_either (same_self (G.EmptyLine i)) (lines i))
      (good_as begins_line any (either_good (empty_line_good n inner).meets (either_good (if_line_good n inner).meets (other_line_good n inner) refl) refl) refl refl)

  pub block_good : (n : ℕ) → Within n i j → Good (List Statement) (G.Block i) true begins_line stops_block (S.block n j)
  unfolding same_word G.Block S.block
  block_good n inner = good_as begins_line stops_block (many_good (line_good n inner).meets refl refl) refl refl
