-- The grammar of the smallest parts of statements: types, separators, the ends of blocks, exits, and signs.
-- A row stands above its form. Braces mean any number, brackets at most one.
use Rattle.std.specs.Prelude.{Bool, if◌then◌else◌, List, [], ◌∷◌, ◌++◌, Option}
use Rattle.brs_tokens.specs.declared.place.Place.{Place}
use Rattle.grammar_rules.specs.declared.word.Word.{Word}
use Rattle.grammar_rules.specs.declared.word.Word.TheVariants as w
use Rattle.grammar_rules.specs.Words.{word_of, place_of, same_word, is_one_of}
use Rattle.grammar_rules.specs.Rules.{Rule, One, Pure, Either, Many, Optional, ◌>>=◌, ◌>>◌}
use Rattle.brs_tokens.specs.Tok.{Tok}
use Rattle.brs_grammar.specs.Expressions.{word}
use Rattle.brs_grammar.specs.declared.tree.CountSign.{CountSign}
use Rattle.brs_grammar.specs.declared.tree.CountSign.TheVariants as count
use Rattle.brs_grammar.specs.declared.tree.LoopKind.TheVariants as loop
use Rattle.brs_grammar.specs.declared.tree.PrintItem.{PrintItem}
use Rattle.brs_grammar.specs.declared.tree.PrintItem.TheVariants as printed
use Rattle.brs_grammar.specs.declared.tree.Simple.{Simple}
use Rattle.brs_grammar.specs.declared.tree.Simple.TheVariants as simple
use Rattle.brs_grammar.specs.declared.tree.TypeWord.{TypeWord}
use Rattle.brs_grammar.specs.declared.tree.TypeWord.TheVariants as kind
use Rattle.brs_grammar.specs.declared.tree.UpdateSign.{UpdateSign}
use Rattle.brs_grammar.specs.declared.tree.UpdateSign.TheVariants as update

-- ---- words

-- type = "integer" | "longinteger" | "string" | "boolean" | "object" | "dynamic" | "function" | "interface" | "void"
abbrev pub is_type : Word → Bool
is_type k = is_one_of (w.Integer ∷ w.LongInteger ∷ w.String ∷ w.Boolean ∷ w.Object ∷ w.Dynamic ∷ w.Function ∷ w.Interface ∷ w.Void ∷ []) k

abbrev pub type_of : Word → TypeWord
type_of k =
    if same_word w.Integer k then kind.Integer
    else if same_word w.LongInteger k then kind.LongInteger
    else if same_word w.String k then kind.String
    else if same_word w.Boolean k then kind.Boolean
    else if same_word w.Object k then kind.Object
    else if same_word w.Dynamic k then kind.Dynamic
    else if same_word w.Function k then kind.Function
    else if same_word w.Interface k then kind.Interface
    else kind.Void

-- [ "as" type ]
unfoldable pub AsType : Rule TypeWord
AsType = do
  word w.As
  t ← One is_type
  Pure (type_of (word_of t))

-- S = NL | ":"
unfoldable pub Separator : Rule Tok
Separator = Either (word w.Newline) (word w.Colon)

-- endfor = "next" | "end" "for" | "endfor"
unfoldable pub EndFor : Rule Tok
EndFor = Either (word w.Next) (Either (word w.EndWord >> word w.For) (word w.EndFor))

-- .. ("end" "while" | "endwhile")
unfoldable pub EndWhile : Rule Tok
EndWhile = Either (word w.EndWord >> word w.While) (word w.EndWhile)

-- .. ("end" "if" | "endif")
unfoldable pub EndIf : Rule Tok
EndIf = Either (word w.EndWord >> word w.If) (word w.EndIf)

-- .. [ "then" ] ..
unfoldable pub Then : Rule (Option Tok)
Then = Optional (word w.Then)

-- elif = "elseif" | "else" "if", with what stands behind it, which gets its place
abbrev pub Elif : {A : Type 0} → (Place → Rule A) → Rule A
Elif arm = Either (word w.ElseIf >>= λ t. arm (place_of t)) (word w.Else >>= λ t. word w.If >> arm (place_of t))

-- exit = "exit" "for"
unfoldable pub ExitFor : Rule Simple
ExitFor = do
  t ← word w.Exit
  word w.For
  Pure (simple.Exit (place_of t) loop.For)

--      | "exit" "while"
unfoldable pub ExitWhile : Rule Simple
ExitWhile = do
  t ← word w.Exit
  word w.While
  Pure (simple.Exit (place_of t) loop.While)

--      | "exitfor"
unfoldable pub ExitForWord : Rule Simple
ExitForWord = do
  t ← word w.ExitFor
  Pure (simple.Exit (place_of t) loop.For)

--      | "exitwhile"
unfoldable pub ExitWhileWord : Rule Simple
ExitWhileWord = do
  t ← word w.ExitWhile
  Pure (simple.Exit (place_of t) loop.While)

abbrev pub Exit : Rule Simple
Exit = Either (Either ExitFor ExitWhile) (Either ExitForWord ExitWhileWord)

-- sep = ";"
unfoldable pub Semicolon : Rule (List PrintItem)
Semicolon = do
  word w.Semicolon
  Pure (printed.Semicolon ∷ [])

--     | ","
unfoldable pub Comma : Rule (List PrintItem)
Comma = do
  word w.Comma
  Pure (printed.Comma ∷ [])

abbrev pub PrintSeparator : Rule (List PrintItem)
PrintSeparator = Either Semicolon Comma

-- sep { sep }
unfoldable pub PrintSeparators : Rule (List PrintItem)
PrintSeparators = do
  x ← PrintSeparator
  more ← Many PrintSeparator
  Pure (x ++ more)

-- ---- signs

-- "+=" | "-=" | "*=" | "\="
abbrev pub is_update_sign : Word → Bool
is_update_sign k = is_one_of (w.PlusEqual ∷ w.MinusEqual ∷ w.StarEqual ∷ w.BackslashEqual ∷ []) k

abbrev pub update_sign : Word → UpdateSign
update_sign k = if same_word w.PlusEqual k then update.Plus else if same_word w.MinusEqual k then update.Minus else if same_word w.StarEqual k then update.Times else update.Divide

-- "++" | "--"
abbrev pub is_count_sign : Word → Bool
is_count_sign k = is_one_of (w.PlusPlus ∷ w.MinusMinus ∷ []) k

abbrev pub count_sign : Word → CountSign
count_sign k = if same_word w.PlusPlus k then count.Increment else count.Decrement
