-- What the rules of statements give has the operands that it takes, where what stands inside has.
use Rattle.std.proofs.Common.{◌≡◌, Bool, true, false, inl, inr, [], refl, sym, subst}
use Rattle.std.specs.Prelude.{All}
use Rattle.std.proofs.lemmas.List.Elements.{All-nil, All-cons, All-append}
use Rattle.grammar_rules.specs.Words.{place_of, word_of}
use Rattle.grammar_rules.specs.Rules.{Rule, Pure, Either}
use Rattle.brs_tokens.specs.declared.place.Place.{Place}
use Rattle.brs_grammar.specs.declared.tree.LoopKind.TheVariants as loop
use Rattle.brs_grammar.specs.declared.tree.PrintItem.TheVariants as printed
use Rattle.brs_grammar.specs.declared.tree.LineArm.{roll-LineArm}
use Rattle.brs_grammar.specs.declared.tree.BlockArm.{roll-BlockArm}
use Rattle.brs_grammar.specs.declared.tree.Target.{Target}
use Rattle.brs_grammar.specs.Expressions as X
use Rattle.brs_grammar.specs.Leaves.{name_of}
use Rattle.brs_grammar.specs.StatementWords as W
use Rattle.brs_grammar.specs.StatementWords.{update_sign, count_sign}
use Rattle.brs_grammar.specs.Statements as G
use Rattle.brs_grammar.specs.Statements.{ends_in_call}
use Rattle.form_operands.proofs.Gives.{Gives, either_gives, many_gives, trailing_gives, optional_gives, ended_gives}
use Rattle.form_operands.proofs.Parts.{ExpressionTakes, PostfixTakes, TargetTakes, PrintItemTakes, SimpleTakes, StatementTakes, LineArmTakes, BlockArmTakes, target_takes, assign_takes_operands, update_takes_operands, count_takes, call_takes, semicolon_takes, comma_takes, shown_value_takes, print_takes, return_takes, exit_takes, line_arm_takes, block_arm_takes, line_if_takes, block_if_takes, for_takes, for_each_takes, while_takes, simple_statement_takes}
use Rattle.form_operands.proofs.Expressions.{one, Within, postfix_gives, expression_gives}

-- ---- what has no parts

exit_for_gives : Gives SimpleTakes W.ExitFor
unfolding W.ExitFor
exit_for_gives ts a s = subst SimpleTakes (sym s.second.second.1) (exit_takes (place_of s.value) loop.For)

exit_while_gives : Gives SimpleTakes W.ExitWhile
unfolding W.ExitWhile
exit_while_gives ts a s = subst SimpleTakes (sym s.second.second.1) (exit_takes (place_of s.value) loop.While)

exit_for_word_gives : Gives SimpleTakes W.ExitForWord
unfolding W.ExitForWord
exit_for_word_gives ts a s = subst SimpleTakes (sym s.second.1) (exit_takes (place_of s.value) loop.For)

exit_while_word_gives : Gives SimpleTakes W.ExitWhileWord
unfolding W.ExitWhileWord
exit_while_word_gives ts a s = subst SimpleTakes (sym s.second.1) (exit_takes (place_of s.value) loop.While)

exit_gives : Gives SimpleTakes W.Exit
exit_gives ts a (inl (inl x)) = exit_for_gives ts a x
exit_gives ts a (inl (inr x)) = exit_while_gives ts a x
exit_gives ts a (inr (inl x)) = exit_for_word_gives ts a x
exit_gives ts a (inr (inr x)) = exit_while_word_gives ts a x

semicolon_gives : Gives (All PrintItemTakes) W.Semicolon
unfolding W.Semicolon
semicolon_gives ts a s = subst (All PrintItemTakes) (sym s.second.1) (one PrintItemTakes printed.Semicolon semicolon_takes)

comma_gives : Gives (All PrintItemTakes) W.Comma
unfolding W.Comma
comma_gives ts a s = subst (All PrintItemTakes) (sym s.second.1) (one PrintItemTakes printed.Comma comma_takes)

separator_gives : Gives (All PrintItemTakes) W.PrintSeparator
separator_gives ts a (inl x) = semicolon_gives ts a x
separator_gives ts a (inr x) = comma_gives ts a x

separators_give : Gives (All PrintItemTakes) W.PrintSeparators
unfolding W.PrintSeparators
separators_give ts a s =
    let u = s.second in
    subst (All PrintItemTakes) (sym u.second.1)
    (All-append PrintItemTakes s.value u.value (separator_gives s.front s.value s.first) (many_gives PrintItemTakes W.PrintSeparator separator_gives u.front u.value u.first))

elif_gives : {A : Type 0} (P : A → Type 0) (arm : Place → Rule A) → ((at : Place) → Gives P (arm at)) → Gives P (W.Elif arm)
elif_gives P arm g ts a (inl s) = g (place_of s.value) s.back a s.second
elif_gives P arm g ts a (inr s) = let u = s.second in g (place_of s.value) u.back a u.second

module _ (i : X.Inside) (w : Within i) where
  -- ---- statements of one line

  target_gives : Gives TargetTakes (G.ATarget i)
  unfolding G.ATarget
  target_gives ts a s =
      let u = s.second in
      subst TargetTakes (sym u.second.1) (target_takes (name_of s.value) u.value (many_gives PostfixTakes (X.APostfix i) (postfix_gives i w) u.front u.value u.first))

  assign_gives : (x : Target) → ends_in_call x ≡ false → TargetTakes x → Gives SimpleTakes (G.Assign i x)
  unfolding G.Assign
  assign_gives x h t ts a s =
      let u = s.second in
      subst SimpleTakes (sym u.second.1) (assign_takes_operands x (place_of s.value) u.value h t (expression_gives i w u.front u.value u.first))

  update_gives : (x : Target) → ends_in_call x ≡ false → TargetTakes x → Gives SimpleTakes (G.Update i x)
  unfolding G.Update
  update_gives x h t ts a s =
      let u = s.second in
      subst SimpleTakes (sym u.second.1) (update_takes_operands x (place_of s.value) (update_sign (word_of s.value)) u.value h t (expression_gives i w u.front u.value u.first))

  count_gives : (x : Target) → ends_in_call x ≡ false → TargetTakes x → Gives SimpleTakes (G.Count i x)
  unfolding G.Count
  count_gives x h t ts a s = subst SimpleTakes (sym s.second.1) (count_takes x (place_of s.value) (count_sign (word_of s.value)) h t)

  target_rest_gives : (x : Target) (b : Bool) → ends_in_call x ≡ b → TargetTakes x → Gives SimpleTakes (G.TargetRest i x b)
  target_rest_gives x true h t ts a e = subst SimpleTakes (sym e.1) (call_takes x t)
  target_rest_gives x false h t ts a (inl y) = assign_gives x h t ts a y
  target_rest_gives x false h t ts a (inr (inl y)) = update_gives x h t ts a y
  target_rest_gives x false h t ts a (inr (inr y)) = count_gives x h t ts a y

  targeted_gives : Gives SimpleTakes (G.Targeted i)
  unfolding G.Targeted
  targeted_gives ts a s = target_rest_gives s.value (ends_in_call s.value) refl (target_gives s.front s.value s.first) s.back a s.second

  print_value_gives : Gives (All PrintItemTakes) (G.PrintValue i)
  unfolding G.PrintValue
  print_value_gives ts a s = subst (All PrintItemTakes) (sym s.second.1) (one PrintItemTakes (printed.Value s.value) (shown_value_takes s.value (expression_gives i w s.front s.value s.first)))

  print_values_give : Gives (All PrintItemTakes) (G.PrintValues i)
  unfolding G.PrintValues
  print_values_give ts a s =
      let u = s.second in
      subst (All PrintItemTakes) (sym u.second.1)
      (All-append PrintItemTakes s.value u.value (print_value_gives s.front s.value s.first)
      (trailing_gives PrintItemTakes W.PrintSeparators (G.PrintValue i) separators_give print_value_gives u.front u.value u.first))

  print_items_give : Gives (All PrintItemTakes) (G.PrintItems i)
  unfolding G.PrintItems
  print_items_give ts a s =
      let u = s.second in
      subst (All PrintItemTakes) (sym u.second.1)
      (All-append PrintItemTakes s.value u.value (many_gives PrintItemTakes W.PrintSeparator separator_gives s.front s.value s.first)
      (either_gives (All PrintItemTakes) (G.PrintValues i) (Pure []) print_values_give (λ us b e. subst (All PrintItemTakes) (sym e.1) (All-nil PrintItemTakes)) u.front u.value u.first))

  print_gives : Gives SimpleTakes (G.Print i)
  unfolding G.Print
  print_gives ts a s =
      let u = s.second in
      subst SimpleTakes (sym u.second.1) (print_takes (place_of s.value) u.value (print_items_give u.front u.value u.first))

  return_gives : Gives SimpleTakes (G.Return i)
  unfolding G.Return
  return_gives ts a s =
      let u = s.second in
      subst SimpleTakes (sym u.second.1) (return_takes (place_of s.value) u.value (optional_gives ExpressionTakes (X.AnExpression i) (expression_gives i w) u.front u.value u.first))

  simple_gives : Gives SimpleTakes (G.ASimple i)
  simple_gives ts a (inl x) = targeted_gives ts a x
  simple_gives ts a (inr (inl x)) = print_gives ts a x
  simple_gives ts a (inr (inr (inl x))) = return_gives ts a x
  simple_gives ts a (inr (inr (inr x))) = exit_gives ts a x

  -- ---- `if` in one line

  next_simple_gives : Gives (All SimpleTakes) (G.NextSimple i)
  unfolding G.NextSimple
  next_simple_gives ts a s =
      let u = s.second in
      subst (All SimpleTakes) (sym u.second.1) (one SimpleTakes u.value (simple_gives u.front u.value u.first))

  run_gives : Gives (All SimpleTakes) (G.Run i)
  unfolding G.Run
  run_gives ts a s =
      let u = s.second in
      subst (All SimpleTakes) (sym u.second.1) (All-cons SimpleTakes s.value u.value (simple_gives s.front s.value s.first) (many_gives SimpleTakes (G.NextSimple i) next_simple_gives u.front u.value u.first))

  next_line_arm_gives : (at : Place) → Gives (All LineArmTakes) (G.NextLineArm i at)
  unfolding G.NextLineArm
  next_line_arm_gives at ts a s =
      let u = s.second.second in
      subst (All LineArmTakes) (sym u.second.1) (one LineArmTakes _ (line_arm_takes at s.value u.value (expression_gives i w s.front s.value s.first) (run_gives u.front u.value u.first)))

  line_else_gives : Gives (All SimpleTakes) (G.LineElse i)
  unfolding G.LineElse
  line_else_gives ts a s = run_gives s.back a s.second

  line_if_gives : Gives StatementTakes (G.LineIf i)
  unfolding G.LineIf
  line_if_gives ts a s =
      let u = s.second in
      let x = u.second.second in
      let y = x.second in
      let arms = ended_gives LineArmTakes (All SimpleTakes) (W.Elif (G.NextLineArm i)) (G.LineElse i) (elif_gives (All LineArmTakes) (G.NextLineArm i) next_line_arm_gives) line_else_gives y.front y.value y.first in
      subst StatementTakes (sym y.second.1)
      (line_if_takes (roll-LineArm (record { place = place_of s.value; condition = u.value; run = x.value })) y.value.turns y.value.last
      (line_arm_takes (place_of s.value) u.value x.value (expression_gives i w u.front u.value u.first) (run_gives x.front x.value x.first)) arms.turns arms.last)

  -- ---- blocks

  next_block_arm_gives : (at : Place) → Gives (All BlockArmTakes) (G.NextBlockArm i at)
  unfolding G.NextBlockArm
  next_block_arm_gives at ts a s =
      let u = s.second.second.second in
      subst (All BlockArmTakes) (sym u.second.1) (one BlockArmTakes _ (block_arm_takes at s.value u.value (expression_gives i w s.front s.value s.first) (w.block u.front u.value u.first)))

  block_else_gives : Gives (All StatementTakes) (G.BlockElse i)
  unfolding G.BlockElse
  block_else_gives ts a s = let u = s.second in w.block u.back a u.second

  block_if_gives : Gives StatementTakes (G.BlockIf i)
  unfolding G.BlockIf
  block_if_gives ts a s =
      let u = s.second in
      let x = u.second.second.second in
      let y = x.second in
      let arms = ended_gives BlockArmTakes (All StatementTakes) (W.Elif (G.NextBlockArm i)) (G.BlockElse i) (elif_gives (All BlockArmTakes) (G.NextBlockArm i) next_block_arm_gives) block_else_gives y.front y.value y.first in
      subst StatementTakes (sym y.second.second.1)
      (block_if_takes (roll-BlockArm (record { place = place_of s.value; condition = u.value; block = x.value })) y.value.turns y.value.last
      (block_arm_takes (place_of s.value) u.value x.value (expression_gives i w u.front u.value u.first) (w.block x.front x.value x.first)) arms.turns arms.last)

  step_gives : Gives ExpressionTakes (G.Step i)
  unfolding G.Step
  step_gives ts a s = expression_gives i w s.back a s.second

  for_gives : Gives StatementTakes (G.For i)
  unfolding G.For
  for_gives ts a s =
      let x = s.second in
      let from = x.second.second in
      let to = from.second.second in
      let by = to.second in
      let body = by.second.second in
      subst StatementTakes (sym body.second.second.1)
      (for_takes (place_of s.value) (name_of x.value) from.value to.value by.value body.value (expression_gives i w from.front from.value from.first) (expression_gives i w to.front to.value to.first)
      (optional_gives ExpressionTakes (G.Step i) step_gives by.front by.value by.first) (w.block body.front body.value body.first))

  for_each_gives : Gives StatementTakes (G.ForEach i)
  unfolding G.ForEach
  for_each_gives ts a s =
      let x = s.second.second in
      let over = x.second.second in
      let body = over.second.second in
      subst StatementTakes (sym body.second.second.1)
      (for_each_takes (place_of s.value) (name_of x.value) over.value body.value (expression_gives i w over.front over.value over.first) (w.block body.front body.value body.first))

  while_gives : Gives StatementTakes (G.While i)
  unfolding G.While
  while_gives ts a s =
      let u = s.second in
      let body = u.second.second in
      subst StatementTakes (sym body.second.second.1) (while_takes (place_of s.value) u.value body.value (expression_gives i w u.front u.value u.first) (w.block body.front body.value body.first))

  simple_statement_gives : Gives StatementTakes (G.SimpleStatement i)
  unfolding G.SimpleStatement
  simple_statement_gives ts a s = subst StatementTakes (sym s.second.1) (simple_statement_takes s.value (simple_gives s.front s.value s.first))

  plain_gives : Gives StatementTakes (G.Plain i)
  plain_gives ts a (inl x) = simple_statement_gives ts a x
  plain_gives ts a (inr (inl x)) = block_if_gives ts a x
  plain_gives ts a (inr (inr (inl x))) = for_gives ts a x
  plain_gives ts a (inr (inr (inr (inl x)))) = for_each_gives ts a x
  plain_gives ts a (inr (inr (inr (inr x)))) = while_gives ts a x

  empty_line_gives : Gives (All StatementTakes) (G.EmptyLine i)
  unfolding G.EmptyLine
  empty_line_gives ts a s = subst (All StatementTakes) (sym s.second.1) (All-nil StatementTakes)

  plain_line_gives : Gives (All StatementTakes) (G.PlainLine i)
  unfolding G.PlainLine
  plain_line_gives ts a s = subst (All StatementTakes) (sym s.second.second.1) (one StatementTakes s.value (plain_gives s.front s.value s.first))

  line_if_line_gives : Gives (All StatementTakes) (G.LineIfLine i)
  unfolding G.LineIfLine
  line_if_line_gives ts a s = subst (All StatementTakes) (sym s.second.second.1) (one StatementTakes s.value (line_if_gives s.front s.value s.first))

  line_gives : Gives (All StatementTakes) (Either (G.EmptyLine i) (Either (G.PlainLine i) (G.LineIfLine i)))
  line_gives ts a (inl x) = empty_line_gives ts a x
  line_gives ts a (inr (inl x)) = plain_line_gives ts a x
  line_gives ts a (inr (inr x)) = line_if_line_gives ts a x

  pub block_gives : Gives (All StatementTakes) (G.Block i)
  unfolding G.Block
  block_gives = many_gives StatementTakes (Either (G.EmptyLine i) (Either (G.PlainLine i) (G.LineIfLine i))) line_gives
