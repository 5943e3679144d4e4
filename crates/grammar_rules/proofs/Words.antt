-- Tests that are computed over all words, and a token of each word.
use Rattle.std.proofs.Common.{◌≡◌, ℕ, zero, suc, Bool, true, false, ◌&&◌, ◌||◌, not, List, [], ◌∷◌, Option, Some, None, refl, ap, sym, ◌∙◌}
use Rattle.grammar_rules.specs.declared.word.Word.{Word}
use Rattle.grammar_rules.specs.declared.word.Word.TheVariants as w
use Rattle.brs_tokens.specs.Tok.{Tok}
use Rattle.brs_tokens.specs.declared.token.TokenKind.{TokenKind}
use Rattle.brs_tokens.specs.declared.token.TokenKind.TheVariants as kind
use lib.Chars.{codes}
use Rattle.grammar_rules.specs.Words.{word_of, word_spelled, is_alike, same_word}
use Rattle.grammar_rules.proofs.Lists.{and_parts, implied, not_true}

abbrev pub words : List Word
words = w.End ∷ w.Newline ∷ w.Name ∷ w.Number ∷ w.Text ∷ w.As ∷ w.Each ∷ w.In ∷ w.Integer ∷ w.LongInteger ∷ w.String ∷ w.Boolean ∷ w.Object ∷ w.Dynamic ∷ w.Interface ∷ w.Void ∷ w.And ∷ w.Else ∷ w.ElseIf ∷ w.EndWord ∷ w.EndFor ∷ w.EndFunction ∷ w.EndIf ∷ w.EndSub ∷ w.EndWhile ∷ w.Exit ∷ w.ExitFor ∷ w.ExitWhile ∷ w.False ∷ w.For ∷ w.Function ∷ w.Goto ∷ w.If ∷ w.Invalid ∷ w.Let ∷ w.Mod ∷ w.Next ∷ w.Not ∷ w.Or ∷ w.Print ∷ w.Return ∷ w.Step ∷ w.Stop ∷ w.Sub ∷ w.Then ∷ w.To ∷ w.True ∷ w.While ∷ w.Plus ∷ w.Minus ∷ w.Star ∷ w.Backslash ∷ w.Equal ∷ w.NotEqual ∷ w.Less ∷ w.Greater ∷ w.LessEqual ∷ w.GreaterEqual ∷ w.ShiftLeft ∷ w.ShiftRight ∷ w.Open ∷ w.Close ∷ w.OpenBracket ∷ w.CloseBracket ∷ w.OpenBrace ∷ w.CloseBrace ∷ w.Comma ∷ w.Colon ∷ w.Semicolon ∷ w.Dot ∷ w.Question ∷ w.PlusEqual ∷ w.MinusEqual ∷ w.StarEqual ∷ w.BackslashEqual ∷ w.PlusPlus ∷ w.MinusMinus ∷ []

abbrev pub every : (Word → Bool) → List Word → Bool
every t [] = true
every t (k ∷ ks) = t k && every t ks

abbrev pub nth : List Word → ℕ → Option Word
nth [] i = None
nth (k ∷ ks) zero = Some k
nth (k ∷ ks) (suc i) = nth ks i

at_place : (t : Word → Bool) (ks : List Word) (i : ℕ) (k : Word) → every t ks ≡ true → nth ks i ≡ Some k → t k ≡ true
at_place t [] i k e p = absurd (cc)
at_place t (j ∷ ks) zero k e p = let same : j ≡ k = cc in ap t (sym same) ∙ (and_parts (t j) (every t ks) e).0
at_place t (j ∷ ks) (suc i) k e p = at_place t ks i k (and_parts (t j) (every t ks) e).1 p

abbrev pub all_words : (Word → Bool) → Bool
all_words t = every t words

pub at_word : (t : Word → Bool) → all_words t ≡ true → (k : Word) → t k ≡ true
at_word t e w.End = at_place t words 0 w.End e refl
at_word t e w.Newline = at_place t words 1 w.Newline e refl
at_word t e w.Name = at_place t words 2 w.Name e refl
at_word t e w.Number = at_place t words 3 w.Number e refl
at_word t e w.Text = at_place t words 4 w.Text e refl
at_word t e w.As = at_place t words 5 w.As e refl
at_word t e w.Each = at_place t words 6 w.Each e refl
at_word t e w.In = at_place t words 7 w.In e refl
at_word t e w.Integer = at_place t words 8 w.Integer e refl
at_word t e w.LongInteger = at_place t words 9 w.LongInteger e refl
at_word t e w.String = at_place t words 10 w.String e refl
at_word t e w.Boolean = at_place t words 11 w.Boolean e refl
at_word t e w.Object = at_place t words 12 w.Object e refl
at_word t e w.Dynamic = at_place t words 13 w.Dynamic e refl
at_word t e w.Interface = at_place t words 14 w.Interface e refl
at_word t e w.Void = at_place t words 15 w.Void e refl
at_word t e w.And = at_place t words 16 w.And e refl
at_word t e w.Else = at_place t words 17 w.Else e refl
at_word t e w.ElseIf = at_place t words 18 w.ElseIf e refl
at_word t e w.EndWord = at_place t words 19 w.EndWord e refl
at_word t e w.EndFor = at_place t words 20 w.EndFor e refl
at_word t e w.EndFunction = at_place t words 21 w.EndFunction e refl
at_word t e w.EndIf = at_place t words 22 w.EndIf e refl
at_word t e w.EndSub = at_place t words 23 w.EndSub e refl
at_word t e w.EndWhile = at_place t words 24 w.EndWhile e refl
at_word t e w.Exit = at_place t words 25 w.Exit e refl
at_word t e w.ExitFor = at_place t words 26 w.ExitFor e refl
at_word t e w.ExitWhile = at_place t words 27 w.ExitWhile e refl
at_word t e w.False = at_place t words 28 w.False e refl
at_word t e w.For = at_place t words 29 w.For e refl
at_word t e w.Function = at_place t words 30 w.Function e refl
at_word t e w.Goto = at_place t words 31 w.Goto e refl
at_word t e w.If = at_place t words 32 w.If e refl
at_word t e w.Invalid = at_place t words 33 w.Invalid e refl
at_word t e w.Let = at_place t words 34 w.Let e refl
at_word t e w.Mod = at_place t words 35 w.Mod e refl
at_word t e w.Next = at_place t words 36 w.Next e refl
at_word t e w.Not = at_place t words 37 w.Not e refl
at_word t e w.Or = at_place t words 38 w.Or e refl
at_word t e w.Print = at_place t words 39 w.Print e refl
at_word t e w.Return = at_place t words 40 w.Return e refl
at_word t e w.Step = at_place t words 41 w.Step e refl
at_word t e w.Stop = at_place t words 42 w.Stop e refl
at_word t e w.Sub = at_place t words 43 w.Sub e refl
at_word t e w.Then = at_place t words 44 w.Then e refl
at_word t e w.To = at_place t words 45 w.To e refl
at_word t e w.True = at_place t words 46 w.True e refl
at_word t e w.While = at_place t words 47 w.While e refl
at_word t e w.Plus = at_place t words 48 w.Plus e refl
at_word t e w.Minus = at_place t words 49 w.Minus e refl
at_word t e w.Star = at_place t words 50 w.Star e refl
at_word t e w.Backslash = at_place t words 51 w.Backslash e refl
at_word t e w.Equal = at_place t words 52 w.Equal e refl
at_word t e w.NotEqual = at_place t words 53 w.NotEqual e refl
at_word t e w.Less = at_place t words 54 w.Less e refl
at_word t e w.Greater = at_place t words 55 w.Greater e refl
at_word t e w.LessEqual = at_place t words 56 w.LessEqual e refl
at_word t e w.GreaterEqual = at_place t words 57 w.GreaterEqual e refl
at_word t e w.ShiftLeft = at_place t words 58 w.ShiftLeft e refl
at_word t e w.ShiftRight = at_place t words 59 w.ShiftRight e refl
at_word t e w.Open = at_place t words 60 w.Open e refl
at_word t e w.Close = at_place t words 61 w.Close e refl
at_word t e w.OpenBracket = at_place t words 62 w.OpenBracket e refl
at_word t e w.CloseBracket = at_place t words 63 w.CloseBracket e refl
at_word t e w.OpenBrace = at_place t words 64 w.OpenBrace e refl
at_word t e w.CloseBrace = at_place t words 65 w.CloseBrace e refl
at_word t e w.Comma = at_place t words 66 w.Comma e refl
at_word t e w.Colon = at_place t words 67 w.Colon e refl
at_word t e w.Semicolon = at_place t words 68 w.Semicolon e refl
at_word t e w.Dot = at_place t words 69 w.Dot e refl
at_word t e w.Question = at_place t words 70 w.Question e refl
at_word t e w.PlusEqual = at_place t words 71 w.PlusEqual e refl
at_word t e w.MinusEqual = at_place t words 72 w.MinusEqual e refl
at_word t e w.StarEqual = at_place t words 73 w.StarEqual e refl
at_word t e w.BackslashEqual = at_place t words 74 w.BackslashEqual e refl
at_word t e w.PlusPlus = at_place t words 75 w.PlusPlus e refl
at_word t e w.MinusMinus = at_place t words 76 w.MinusMinus e refl

-- each word of the first is in the second
abbrev pub within : (Word → Bool) → (Word → Bool) → Bool
within a b = all_words (λ k. not (a k) || b k)

pub in_second : (a b : Word → Bool) → within a b ≡ true → (k : Word) → a k ≡ true → b k ≡ true
in_second a b e k t = implied (a k) (b k) (at_word (λ k. not (a k) || b k) e k) t

-- no word is in both
abbrev pub apart : (Word → Bool) → (Word → Bool) → Bool
apart a b = all_words (λ k. not (a k) || not (b k))

pub not_in_second : (a b : Word → Bool) → apart a b ≡ true → (k : Word) → a k ≡ true → b k ≡ false
not_in_second a b e k t = not_true (b k) (implied (a k) (not (b k)) (at_word (λ k. not (a k) || not (b k)) e k) t)

-- ---- a token of each word

abbrev pub token : TokenKind → List ℕ → Tok
token k slice = record { kind = k; slice = slice; line = 1; column = 1 }

abbrev pub sample : Word → Tok
sample w.End = token kind.Sign []
sample w.Newline = token kind.Newline (codes "\n")
sample w.Name = token kind.Name (codes "x")
sample w.Number = token kind.Number (codes "0")
sample w.Text = token kind.Text (codes "\"\"")
sample w.As = token kind.Name (codes "as")
sample w.Each = token kind.Name (codes "each")
sample w.In = token kind.Name (codes "in")
sample w.Integer = token kind.Name (codes "integer")
sample w.LongInteger = token kind.Name (codes "longinteger")
sample w.String = token kind.Name (codes "string")
sample w.Boolean = token kind.Name (codes "boolean")
sample w.Object = token kind.Name (codes "object")
sample w.Dynamic = token kind.Name (codes "dynamic")
sample w.Interface = token kind.Name (codes "interface")
sample w.Void = token kind.Name (codes "void")
sample w.And = token kind.Keyword (codes "and")
sample w.Else = token kind.Keyword (codes "else")
sample w.ElseIf = token kind.Keyword (codes "elseif")
sample w.EndWord = token kind.Keyword (codes "end")
sample w.EndFor = token kind.Keyword (codes "endfor")
sample w.EndFunction = token kind.Keyword (codes "endfunction")
sample w.EndIf = token kind.Keyword (codes "endif")
sample w.EndSub = token kind.Keyword (codes "endsub")
sample w.EndWhile = token kind.Keyword (codes "endwhile")
sample w.Exit = token kind.Keyword (codes "exit")
sample w.ExitFor = token kind.Keyword (codes "exitfor")
sample w.ExitWhile = token kind.Keyword (codes "exitwhile")
sample w.False = token kind.Keyword (codes "false")
sample w.For = token kind.Keyword (codes "for")
sample w.Function = token kind.Keyword (codes "function")
sample w.Goto = token kind.Keyword (codes "goto")
sample w.If = token kind.Keyword (codes "if")
sample w.Invalid = token kind.Keyword (codes "invalid")
sample w.Let = token kind.Keyword (codes "let")
sample w.Mod = token kind.Keyword (codes "mod")
sample w.Next = token kind.Keyword (codes "next")
sample w.Not = token kind.Keyword (codes "not")
sample w.Or = token kind.Keyword (codes "or")
sample w.Print = token kind.Keyword (codes "print")
sample w.Return = token kind.Keyword (codes "return")
sample w.Step = token kind.Keyword (codes "step")
sample w.Stop = token kind.Keyword (codes "stop")
sample w.Sub = token kind.Keyword (codes "sub")
sample w.Then = token kind.Keyword (codes "then")
sample w.To = token kind.Keyword (codes "to")
sample w.True = token kind.Keyword (codes "true")
sample w.While = token kind.Keyword (codes "while")
sample w.Plus = token kind.Sign (codes "+")
sample w.Minus = token kind.Sign (codes "-")
sample w.Star = token kind.Sign (codes "*")
sample w.Backslash = token kind.Sign (codes "\\")
sample w.Equal = token kind.Sign (codes "=")
sample w.NotEqual = token kind.Sign (codes "<>")
sample w.Less = token kind.Sign (codes "<")
sample w.Greater = token kind.Sign (codes ">")
sample w.LessEqual = token kind.Sign (codes "<=")
sample w.GreaterEqual = token kind.Sign (codes ">=")
sample w.ShiftLeft = token kind.Sign (codes "<<")
sample w.ShiftRight = token kind.Sign (codes ">>")
sample w.Open = token kind.Sign (codes "(")
sample w.Close = token kind.Sign (codes ")")
sample w.OpenBracket = token kind.Sign (codes "[")
sample w.CloseBracket = token kind.Sign (codes "]")
sample w.OpenBrace = token kind.Sign (codes "{")
sample w.CloseBrace = token kind.Sign (codes "}")
sample w.Comma = token kind.Sign (codes ",")
sample w.Colon = token kind.Sign (codes ":")
sample w.Semicolon = token kind.Sign (codes ";")
sample w.Dot = token kind.Sign (codes ".")
sample w.Question = token kind.Sign (codes "?")
sample w.PlusEqual = token kind.Sign (codes "+=")
sample w.MinusEqual = token kind.Sign (codes "-=")
sample w.StarEqual = token kind.Sign (codes "*=")
sample w.BackslashEqual = token kind.Sign (codes "\\=")
sample w.PlusPlus = token kind.Sign (codes "++")
sample w.MinusMinus = token kind.Sign (codes "--")

-- it is a token of that word
pub sample_is : (k : Word) → same_word k w.End ≡ false → word_of (sample k) ≡ k
unfolding word_of word_spelled is_alike same_word
sample_is w.End e = absurd (cc)
sample_is w.Newline e = refl
sample_is w.Name e = refl
sample_is w.Number e = refl
sample_is w.Text e = refl
sample_is w.As e = refl
sample_is w.Each e = refl
sample_is w.In e = refl
sample_is w.Integer e = refl
sample_is w.LongInteger e = refl
sample_is w.String e = refl
sample_is w.Boolean e = refl
sample_is w.Object e = refl
sample_is w.Dynamic e = refl
sample_is w.Interface e = refl
sample_is w.Void e = refl
sample_is w.And e = refl
sample_is w.Else e = refl
sample_is w.ElseIf e = refl
sample_is w.EndWord e = refl
sample_is w.EndFor e = refl
sample_is w.EndFunction e = refl
sample_is w.EndIf e = refl
sample_is w.EndSub e = refl
sample_is w.EndWhile e = refl
sample_is w.Exit e = refl
sample_is w.ExitFor e = refl
sample_is w.ExitWhile e = refl
sample_is w.False e = refl
sample_is w.For e = refl
sample_is w.Function e = refl
sample_is w.Goto e = refl
sample_is w.If e = refl
sample_is w.Invalid e = refl
sample_is w.Let e = refl
sample_is w.Mod e = refl
sample_is w.Next e = refl
sample_is w.Not e = refl
sample_is w.Or e = refl
sample_is w.Print e = refl
sample_is w.Return e = refl
sample_is w.Step e = refl
sample_is w.Stop e = refl
sample_is w.Sub e = refl
sample_is w.Then e = refl
sample_is w.To e = refl
sample_is w.True e = refl
sample_is w.While e = refl
sample_is w.Plus e = refl
sample_is w.Minus e = refl
sample_is w.Star e = refl
sample_is w.Backslash e = refl
sample_is w.Equal e = refl
sample_is w.NotEqual e = refl
sample_is w.Less e = refl
sample_is w.Greater e = refl
sample_is w.LessEqual e = refl
sample_is w.GreaterEqual e = refl
sample_is w.ShiftLeft e = refl
sample_is w.ShiftRight e = refl
sample_is w.Open e = refl
sample_is w.Close e = refl
sample_is w.OpenBracket e = refl
sample_is w.CloseBracket e = refl
sample_is w.OpenBrace e = refl
sample_is w.CloseBrace e = refl
sample_is w.Comma e = refl
sample_is w.Colon e = refl
sample_is w.Semicolon e = refl
sample_is w.Dot e = refl
sample_is w.Question e = refl
sample_is w.PlusEqual e = refl
sample_is w.MinusEqual e = refl
sample_is w.StarEqual e = refl
sample_is w.BackslashEqual e = refl
sample_is w.PlusPlus e = refl
sample_is w.MinusMinus e = refl
