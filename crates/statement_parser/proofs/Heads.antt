-- The endings of an `if`, where the place of `else` alone is kept of its token.
use Rattle.std.proofs.Common.{◌≡◌, ℕ, zero, suc, Bool, true, false, cond, List, [], ◌∷◌, ◌++◌, length, Result, Ok, Err, refl, sym, subst}
use Rattle.brs_tokens.specs.Tok.{Tok}
use Rattle.grammar_rules.specs.declared.word.Word.{Word}
use Rattle.grammar_rules.specs.declared.word.Word.TheVariants as w
use Rattle.grammar_rules.specs.Words.{next, place_of, same_word}
use Rattle.grammar_rules.specs.Rules.{Ending}
use Rattle.grammar_rules.specs.Reading.{Outcome, Parser, and_then, pure, ended, ended_from}
use Rattle.brs_grammar.specs.declared.tree.BlockArm.{BlockArm}
use Rattle.brs_grammar.specs.declared.tree.LineArm.{LineArm}
use Rattle.brs_grammar.specs.declared.tree.Simple.{Simple}
use Rattle.brs_grammar.specs.declared.tree.Statement.{Statement}
use Rattle.brs_grammar.specs.ReadExpressions.{Inside, word}
use Rattle.brs_grammar.specs.ReadStatements as S
use Rattle.token_cursor.specs.declared.cursor.ParseError.{ParseError}
use Rattle.token_cursor.specs.declared.ending.EndedTurns.{EndedTurns}
use Rattle.token_cursor.specs.Endings.{ending_of}
use Rattle.token_cursor.specs.Reads.{Gives}
use Rattle.statement_parser.specs.Arms.{else_place, line_arm, block_arm}

either_way : {A : Type 0} (t : Bool) (a b c d : Outcome A) → a ≡ c → b ≡ d → cond t a b ≡ cond t c d
either_way true a b c d e f = e
either_way false a b c d e f = f

then_same : {A B : Type 0} (o : Outcome A) (f g : A → Parser B) → ((a : A) (ts : List Tok) → f a ts ≡ g a ts) → and_then o f ≡ and_then o g
then_same (Ok x) f g e = e x.0 x.1
then_same (Err ts) f g e = refl

mapped_same : {A B C : Type 0} (o : Outcome A) (h : A → C) (f : A → Parser B) (g : C → Parser B) → ((a : A) (ts : List Tok) → f a ts ≡ g (h a) ts) → and_then o f ≡ and_then (and_then o (λ a. pure (h a))) g
mapped_same (Ok x) h f g e = e x.0 x.1
mapped_same (Err ts) h f g e = refl

module _ {A B E H : Type 0} (h : E → H) (turns heads again : Word → Bool) (turn : Parser (List A)) (head : Parser E) (other : H → Parser (List A)) (last : H → Parser B) where
  from_same : (n : ℕ) (found : List A) (ts : List Tok)
      → ended_from turns heads again turn head (λ e. other (h e)) (λ e. last (h e)) n found ts ≡ ended_from turns heads again turn (λ ts. and_then (head ts) (λ e. pure (h e))) other last n found ts
  unfolding ended_from
  from_same zero found ts = refl
  from_same (suc n) found ts =
      either_way (turns (next ts)) _ _ _ _ (then_same (turn ts) _ _ (λ x. from_same n (found ++ x)))
      (either_way (heads (next ts)) _ _ _ _
      (mapped_same (head ts) h _ _ (λ e rest. either_way (again (next rest)) _ _ _ _ (then_same (other (h e) rest) _ _ (λ x. from_same n (found ++ x))) refl))
      refl)

same_line_ending : (depth : ℕ) (j : Inside) (ts : List Tok)
    → S.line_ending depth j ts ≡ ended (same_word w.ElseIf) (same_word w.Else) (same_word w.If) (line_arm depth j) else_place (S.else_if_line_arm depth j) (λ _. S.run depth j) ts
unfolding S.line_ending ended line_arm else_place
same_line_ending depth j ts =
    from_same place_of (same_word w.ElseIf) (same_word w.Else) (same_word w.If) (line_arm depth j) (word w.Else) (S.else_if_line_arm depth j) (λ _. S.run depth j) (length ts) [] ts

same_block_ending : (depth : ℕ) (j : Inside) (ts : List Tok)
    → S.block_ending depth j ts ≡ ended (same_word w.ElseIf) (same_word w.Else) (same_word w.If) (block_arm depth j) else_place (S.else_if_block_arm depth j) (λ _. S.block_else depth j) ts
unfolding S.block_ending ended block_arm else_place
same_block_ending depth j ts =
    from_same place_of (same_word w.ElseIf) (same_word w.Else) (same_word w.If) (block_arm depth j) (word w.Else) (S.else_if_block_arm depth j) (λ _. S.block_else depth j) (length ts) [] ts

pub line_ended : (depth : ℕ) (j : Inside) (ts : List Tok) (r : Result (EndedTurns LineArm (List Simple)) ParseError) (new : List Tok)
    → Gives ending_of (ended (same_word w.ElseIf) (same_word w.Else) (same_word w.If) (line_arm depth j) else_place (S.else_if_line_arm depth j) (λ _. S.run depth j) ts) r new
    → Gives ending_of (S.line_ending depth j ts) r new
line_ended depth j ts r new given = subst (λ o. Gives ending_of o r new) (sym (same_line_ending depth j ts)) given

pub block_ended : (depth : ℕ) (j : Inside) (ts : List Tok) (r : Result (EndedTurns BlockArm (List Statement)) ParseError) (new : List Tok)
    → Gives ending_of (ended (same_word w.ElseIf) (same_word w.Else) (same_word w.If) (block_arm depth j) else_place (S.else_if_block_arm depth j) (λ _. S.block_else depth j) ts) r new
    → Gives ending_of (S.block_ending depth j ts) r new
block_ended depth j ts r new given = subst (λ o. Gives ending_of o r new) (sym (same_block_ending depth j ts)) given
