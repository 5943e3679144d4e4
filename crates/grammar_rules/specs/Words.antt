-- The words of the grammar, and the word of a token.
use Rattle.std.specs.Prelude.{ℕ, Bool, false, ◌||◌, List, [], ◌∷◌, if◌then◌else◌}
use Rattle.std.specs.Str.{bytes_eq}
use lib.Chars.{codes}
use denote.Enum.Bare.{sameb}
use Rattle.chan_values.specs.Folded.{folded}
use Rattle.brs_tokens.specs.declared.token.TokenKind.{TokenKind}
use Rattle.brs_tokens.specs.declared.token.TokenKind.TheVariants as kind
use Rattle.brs_tokens.specs.Tok.{Tok}
use Rattle.grammar_rules.specs.contracts.word.Word.{the_type}
use Rattle.brs_tokens.specs.declared.place.Place.{Place}
use Rattle.grammar_rules.specs.declared.word.Word.{Word}
use Rattle.grammar_rules.specs.declared.word.Word.TheVariants as w

-- ---- spellings, in small letters

-- the keywords
abbrev pub keywords : List (List ℕ × Word)
keywords =
    (codes "and", w.And)
    ∷ (codes "else", w.Else)
    ∷ (codes "elseif", w.ElseIf)
    ∷ (codes "end", w.EndWord)
    ∷ (codes "endfor", w.EndFor)
    ∷ (codes "endfunction", w.EndFunction)
    ∷ (codes "endif", w.EndIf)
    ∷ (codes "endsub", w.EndSub)
    ∷ (codes "endwhile", w.EndWhile)
    ∷ (codes "exit", w.Exit)
    ∷ (codes "exitfor", w.ExitFor)
    ∷ (codes "exitwhile", w.ExitWhile)
    ∷ (codes "false", w.False)
    ∷ (codes "for", w.For)
    ∷ (codes "function", w.Function)
    ∷ (codes "goto", w.Goto)
    ∷ (codes "if", w.If)
    ∷ (codes "invalid", w.Invalid)
    ∷ (codes "let", w.Let)
    ∷ (codes "mod", w.Mod)
    ∷ (codes "next", w.Next)
    ∷ (codes "not", w.Not)
    ∷ (codes "or", w.Or)
    ∷ (codes "print", w.Print)
    ∷ (codes "return", w.Return)
    ∷ (codes "step", w.Step)
    ∷ (codes "stop", w.Stop)
    ∷ (codes "sub", w.Sub)
    ∷ (codes "then", w.Then)
    ∷ (codes "to", w.To)
    ∷ (codes "true", w.True)
    ∷ (codes "while", w.While)
    ∷ []

-- the names that have a meaning of their own where a form asks for it
abbrev pub contextual : List (List ℕ × Word)
contextual =
    (codes "as", w.As)
    ∷ (codes "each", w.Each)
    ∷ (codes "in", w.In)
    ∷ (codes "integer", w.Integer)
    ∷ (codes "longinteger", w.LongInteger)
    ∷ (codes "string", w.String)
    ∷ (codes "boolean", w.Boolean)
    ∷ (codes "object", w.Object)
    ∷ (codes "dynamic", w.Dynamic)
    ∷ (codes "interface", w.Interface)
    ∷ (codes "void", w.Void)
    ∷ []

-- the signs
abbrev pub signs : List (List ℕ × Word)
signs =
    (codes "+", w.Plus)
    ∷ (codes "-", w.Minus)
    ∷ (codes "*", w.Star)
    ∷ (codes "\\", w.Backslash)
    ∷ (codes "=", w.Equal)
    ∷ (codes "<>", w.NotEqual)
    ∷ (codes "<", w.Less)
    ∷ (codes ">", w.Greater)
    ∷ (codes "<=", w.LessEqual)
    ∷ (codes ">=", w.GreaterEqual)
    ∷ (codes "<<", w.ShiftLeft)
    ∷ (codes ">>", w.ShiftRight)
    ∷ (codes "(", w.Open)
    ∷ (codes ")", w.Close)
    ∷ (codes "[", w.OpenBracket)
    ∷ (codes "]", w.CloseBracket)
    ∷ (codes "{", w.OpenBrace)
    ∷ (codes "}", w.CloseBrace)
    ∷ (codes ",", w.Comma)
    ∷ (codes ":", w.Colon)
    ∷ (codes ";", w.Semicolon)
    ∷ (codes ".", w.Dot)
    ∷ (codes "?", w.Question)
    ∷ (codes "+=", w.PlusEqual)
    ∷ (codes "-=", w.MinusEqual)
    ∷ (codes "*=", w.StarEqual)
    ∷ (codes "\\=", w.BackslashEqual)
    ∷ (codes "++", w.PlusPlus)
    ∷ (codes "--", w.MinusMinus)
    ∷ []

-- ---- the word of a token

-- whether two spellings differ at most in the case of their letters
unfoldable pub is_alike : List ℕ → List ℕ → Bool
is_alike a b = bytes_eq (folded a) (folded b)

-- the word beside a spelling, whose letters may be small or capital, or else another
abbrev pub word_beside : List (List ℕ × Word) → Word → List ℕ → Word
word_beside [] other spelling = other
word_beside (row ∷ rows) other spelling = if is_alike row.0 spelling then row.1 else word_beside rows other spelling

-- No form asks for the end, so what is spelled as no keyword or sign stands in none.
unfoldable pub word_spelled : TokenKind → List ℕ → Word
word_spelled kind.Newline slice = w.Newline
word_spelled kind.Name slice = word_beside contextual w.Name slice
word_spelled kind.Keyword slice = word_beside keywords w.End slice
word_spelled kind.Number slice = w.Number
word_spelled kind.Text slice = w.Text
word_spelled kind.Sign slice = word_beside signs w.End slice

unfoldable pub word_of : Tok → Word
word_of t = word_spelled t.kind t.slice

abbrev pub place_of : Tok → Place
place_of t = record { line = t.line; column = t.column }

-- what stands next
abbrev pub next : List Tok → Word
next [] = w.End
next (t ∷ ts) = word_of t

-- ---- classes of words

unfoldable pub same_word : Word → Word → Bool
same_word = sameb the_type

abbrev pub is_one_of : List Word → Word → Bool
is_one_of [] k = false
is_one_of (j ∷ js) k = same_word j k || is_one_of js k

-- a name: no form asks for a name of its own at a place where any name may stand
abbrev pub is_name : Word → Bool
is_name k = is_one_of (w.Name ∷ w.As ∷ w.Each ∷ w.In ∷ w.Integer ∷ w.LongInteger ∷ w.String ∷ w.Boolean ∷ w.Object ∷ w.Dynamic ∷ w.Interface ∷ w.Void ∷ []) k

abbrev pub is_statement_keyword : Word → Bool
is_statement_keyword k = is_one_of (w.Else ∷ w.ElseIf ∷ w.EndWord ∷ w.EndFor ∷ w.EndFunction ∷ w.EndIf ∷ w.EndSub ∷ w.EndWhile ∷ w.Exit ∷ w.ExitFor ∷ w.ExitWhile ∷ w.For ∷ w.If ∷ w.Next ∷ w.Print ∷ w.Return ∷ []) k

abbrev pub is_other_keyword : Word → Bool
is_other_keyword k = is_one_of (w.And ∷ w.False ∷ w.Function ∷ w.Goto ∷ w.Invalid ∷ w.Let ∷ w.Mod ∷ w.Not ∷ w.Or ∷ w.Step ∷ w.Stop ∷ w.Sub ∷ w.Then ∷ w.To ∷ w.True ∷ w.While ∷ []) k

abbrev pub is_keyword : Word → Bool
is_keyword k = is_statement_keyword k || is_other_keyword k

-- word = name | any keyword
abbrev pub is_word : Word → Bool
is_word k = is_name k || is_keyword k
