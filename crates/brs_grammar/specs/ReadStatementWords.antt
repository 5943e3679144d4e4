-- What a parser with one token ahead reads of the smallest parts of statements, and the words that begin each form.
use Rattle.std.specs.Prelude.{Bool, ◌||◌, List, [], ◌∷◌, ◌++◌, Option}
use Rattle.brs_tokens.specs.declared.place.Place.{Place}
use Rattle.grammar_rules.specs.declared.word.Word.{Word}
use Rattle.grammar_rules.specs.declared.word.Word.TheVariants as w
use Rattle.grammar_rules.specs.Words.{word_of, place_of, is_one_of, is_name}
use Rattle.grammar_rules.specs.Reading.{Parser, ◌>>=◌, ◌>>◌, pure, one, choose, many, optional}
use Rattle.brs_tokens.specs.Tok.{Tok}
use Rattle.brs_grammar.specs.declared.tree.LoopKind.TheVariants as loop
use Rattle.brs_grammar.specs.declared.tree.PrintItem.{PrintItem}
use Rattle.brs_grammar.specs.declared.tree.PrintItem.TheVariants as printed
use Rattle.brs_grammar.specs.declared.tree.Simple.{Simple}
use Rattle.brs_grammar.specs.declared.tree.Simple.TheVariants as simple
use Rattle.brs_grammar.specs.declared.tree.TypeWord.{TypeWord}
use Rattle.brs_grammar.specs.Statements.{is_type, type_of}
use Rattle.brs_grammar.specs.ReadExpressions.{is, word}

-- ---- the words that begin a form

abbrev pub begins_separator : Word → Bool
begins_separator k = is w.Newline k || is w.Colon k

abbrev pub begins_end_for : Word → Bool
begins_end_for k = is w.Next k || (is w.EndWord k || is w.EndFor k)

abbrev pub begins_end_while : Word → Bool
begins_end_while k = is w.EndWord k || is w.EndWhile k

abbrev pub begins_end_if : Word → Bool
begins_end_if k = is w.EndWord k || is w.EndIf k

abbrev pub begins_exit : Word → Bool
begins_exit k = is_one_of (w.Exit ∷ w.ExitFor ∷ w.ExitWhile ∷ []) k

abbrev pub begins_print_separator : Word → Bool
begins_print_separator k = is w.Semicolon k || is w.Comma k

abbrev pub begins_print : Word → Bool
begins_print k = is w.Print k || is w.Question k

abbrev pub begins_simple : Word → Bool
begins_simple k = is_name k || (begins_print k || (is w.Return k || begins_exit k))

abbrev pub begins_line : Word → Bool
begins_line k =
    is_name k || is_one_of (w.Newline ∷ w.Colon ∷ w.Print ∷ w.Question ∷ w.Return ∷ w.Exit ∷ w.ExitFor ∷ w.ExitWhile ∷ w.If ∷ w.For ∷ w.While ∷ []) k

abbrev pub begins_named : Word → Bool
begins_named k = is w.Function k || is w.Sub k

-- ---- forms

unfoldable pub as_type : Parser TypeWord
as_type = do
  word w.As
  t ← one is_type
  pure (type_of (word_of t))

unfoldable pub separator : Parser Tok
separator = choose (is w.Newline) (word w.Newline) (word w.Colon)

unfoldable pub end_for : Parser Tok
end_for = choose (is w.Next) (word w.Next) (choose (is w.EndWord) (word w.EndWord >> word w.For) (word w.EndFor))

unfoldable pub end_while : Parser Tok
end_while = choose (is w.EndWord) (word w.EndWord >> word w.While) (word w.EndWhile)

unfoldable pub end_if : Parser Tok
end_if = choose (is w.EndWord) (word w.EndWord >> word w.If) (word w.EndIf)

unfoldable pub then_ : Parser (Option Tok)
then_ = optional (is w.Then) (word w.Then)

unfoldable pub exit_for : Place → Parser Simple
exit_for at = do
  word w.For
  pure (simple.Exit at loop.For)

unfoldable pub exit_while : Place → Parser Simple
exit_while at = do
  word w.While
  pure (simple.Exit at loop.While)

unfoldable pub exit_two : Parser Simple
exit_two = do
  t ← word w.Exit
  choose (is w.For) (exit_for (place_of t)) (exit_while (place_of t))

unfoldable pub exit_for_word : Parser Simple
exit_for_word = do
  t ← word w.ExitFor
  pure (simple.Exit (place_of t) loop.For)

unfoldable pub exit_while_word : Parser Simple
exit_while_word = do
  t ← word w.ExitWhile
  pure (simple.Exit (place_of t) loop.While)

unfoldable pub exit : Parser Simple
exit = choose (is w.Exit) exit_two (choose (is w.ExitFor) exit_for_word exit_while_word)

unfoldable pub semicolon : Parser (List PrintItem)
semicolon = do
  word w.Semicolon
  pure (printed.Semicolon ∷ [])

unfoldable pub comma : Parser (List PrintItem)
comma = do
  word w.Comma
  pure (printed.Comma ∷ [])

unfoldable pub print_separator : Parser (List PrintItem)
print_separator = choose (is w.Semicolon) semicolon comma

unfoldable pub more_separators : Parser (List PrintItem)
more_separators = many begins_print_separator print_separator

unfoldable pub print_separators : Parser (List PrintItem)
print_separators = do
  x ← print_separator
  more ← more_separators
  pure (x ++ more)
