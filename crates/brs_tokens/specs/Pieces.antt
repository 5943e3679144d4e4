-- Which bytes, taken whole, are one piece, and of which kind, as a test. `Kinds` defines it.
use Rattle.std.specs.Prelude.{ℕ, Bool, true, false, ◌&&◌, ◌||◌, ◌==◌, if◌then◌else◌, List, [], ◌∷◌, drop, Option, Some, None, codes}
use Rattle.std.specs.List.{prefix_len, take_while, list_all, list_any}
use Rattle.std.specs.Str.{bytes_eq}
use Rattle.chan_values.specs.Folded.{folded}
use Rattle.brs_tokens.specs.Classes.{line_feed, quote, ampersand, apostrophe, is_among, is_blank, stays_in_line, is_digit, is_hex_digit, begins_name, is_name_byte}
use Rattle.brs_tokens.specs.declared.piece.PieceKind.{PieceKind}
use Rattle.brs_tokens.specs.declared.piece.PieceKind.TheVariants.{Blank, Comment, Token}
use Rattle.brs_tokens.specs.declared.token.TokenKind.TheVariants.{Newline, Name, Keyword, Number, Text, Sign}

abbrev pub is_empty : List ℕ → Bool
is_empty [] = true
is_empty (b ∷ bs) = false

-- the kind where the test holds
abbrev pub where_ : Bool → PieceKind → Option PieceKind
where_ test kind = if test then Some kind else None

-- Names and comments by word. Source: "Identifiers", "Reserved Words", "REM".

abbrev pub is_word : List ℕ → List ℕ → Bool
is_word word name = bytes_eq word (folded name)

unfoldable pub is_keyword : List ℕ → Bool
is_keyword name = list_any (λ word. is_word word name) (
    codes "and" ∷ codes "else" ∷ codes "elseif" ∷ codes "end" ∷ codes "endfor" ∷ codes "endfunction" ∷ codes "endif" ∷ codes "endsub" ∷
    codes "endwhile" ∷ codes "exit" ∷ codes "exitfor" ∷ codes "exitwhile" ∷ codes "false" ∷ codes "for" ∷ codes "function" ∷ codes "goto" ∷
    codes "if" ∷ codes "invalid" ∷ codes "let" ∷ codes "mod" ∷ codes "next" ∷ codes "not" ∷ codes "or" ∷ codes "print" ∷ codes "return" ∷
    codes "step" ∷ codes "stop" ∷ codes "sub" ∷ codes "then" ∷ codes "to" ∷ codes "true" ∷ codes "while" ∷ [])

-- A name is a letter or `_` and then letters, digits and `_`. The name `rem` and what follows it in its line is a comment.
unfoldable pub word_kind : List ℕ → Option PieceKind
word_kind bytes =
    let name = take_while is_name_byte bytes in
    let more = drop (prefix_len is_name_byte bytes) bytes in
    if is_word (codes "rem") name then where_ (list_all stays_in_line more) Comment
    else where_ (is_empty more) (Token (if is_keyword name then Keyword else Name))

-- Numbers. Source: "Literals (Constants)".

-- digits, and then at most one `&`
abbrev pub is_digits : (ℕ → Bool) → List ℕ → Bool
is_digits digit [] = true
is_digits digit (b ∷ bs) = if digit b then is_digits digit bs else (b == ampersand && is_empty bs)

-- what follows the `&` of a hexadecimal number: `h` of either case, a digit, more digits, and at most one `&`
abbrev pub is_hex_end : List ℕ → Bool
is_hex_end [] = false
is_hex_end (h ∷ []) = false
is_hex_end (h ∷ d ∷ bs) = (h == 104 || h == 72) && is_hex_digit d && is_digits is_hex_digit bs

-- What follows the opening quote of a text: characters other than LF, in which `""` stands for one quote, and a quote.
-- Source: "Literals (Constants)".
abbrev pub is_text_end : List ℕ → Bool
is_text_end [] = false
is_text_end (b ∷ []) = b == quote
is_text_end (b ∷ c ∷ bs) = if b == quote then c == quote && is_text_end bs else (stays_in_line b && is_text_end (c ∷ bs))

-- Signs. Source: "Operators" and "Punctuation".
unfoldable pub is_sign : List ℕ → Bool
is_sign [] = false
is_sign (b ∷ []) = is_among (codes "+-*\\=<>()[]{},:;.?") b
is_sign (b ∷ c ∷ []) =
    list_any (λ sign. bytes_eq sign (b ∷ c ∷ [])) (
    codes "<>" ∷ codes "<=" ∷ codes ">=" ∷ codes "<<" ∷ codes ">>" ∷ codes "+=" ∷ codes "-=" ∷ codes "*=" ∷ codes "\\=" ∷ codes "++" ∷ codes "--" ∷ [])
is_sign (b ∷ c ∷ d ∷ bs) = false

-- the kind of the piece that these bytes spell, if they spell one
unfoldable pub piece_kind : List ℕ → Option PieceKind
piece_kind [] = None
piece_kind (b ∷ bs) =
    if is_blank b then where_ (is_empty bs) Blank
    else if b == line_feed then where_ (is_empty bs) (Token Newline)
    else if b == apostrophe then where_ (list_all stays_in_line bs) Comment
    else if begins_name b then word_kind (b ∷ bs)
    else if is_digit b then where_ (is_digits is_digit bs) (Token Number)
    else if b == ampersand then where_ (is_hex_end bs) (Token Number)
    else if b == quote then where_ (is_text_end bs) (Token Text)
    else where_ (is_sign (b ∷ bs)) (Token Sign)
