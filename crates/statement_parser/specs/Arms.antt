-- The further arms of an `if`, each from its first word on.
use Rattle.std.specs.Prelude.{ℕ, List}
use Rattle.brs_tokens.specs.declared.place.Place.{Place}
use Rattle.grammar_rules.specs.declared.word.Word.TheVariants as w
use Rattle.grammar_rules.specs.Words.{place_of}
use Rattle.grammar_rules.specs.Reading.{Parser, ◌>>=◌, pure}
use Rattle.brs_grammar.specs.declared.tree.BlockArm.{BlockArm}
use Rattle.brs_grammar.specs.declared.tree.LineArm.{LineArm}
use Rattle.brs_grammar.specs.ReadExpressions.{Inside, word}
use Rattle.brs_grammar.specs.ReadStatements.{next_line_arm, next_block_arm}

unfoldable pub else_place : Parser Place
else_place = do
  t ← word w.Else
  pure (place_of t)

unfoldable pub line_arm : ℕ → Inside → Parser (List LineArm)
line_arm depth j = do
  t ← word w.ElseIf
  next_line_arm depth j (place_of t)

unfoldable pub block_arm : ℕ → Inside → Parser (List BlockArm)
block_arm depth j = do
  t ← word w.ElseIf
  next_block_arm depth j (place_of t)
