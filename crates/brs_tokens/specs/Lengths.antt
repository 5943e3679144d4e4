-- How many bytes the longest piece of each kind takes, told byte by byte.
use Rattle.std.specs.Prelude.{ℕ, ◌+◌, Bool, ◌&&◌, ◌||◌, ◌==◌, if◌then◌else◌, List, [], ◌∷◌, take, drop}
use Rattle.std.specs.List.{prefix_len}
use Rattle.std.specs.Prelude.{codes}
use Rattle.brs_tokens.specs.Classes.{stays_in_line, is_unquoted, is_digit, is_hex_digit, is_name_byte}
use Rattle.brs_tokens.specs.Pieces.{is_word, is_keyword, is_sign}
use Rattle.brs_tokens.specs.declared.classes.Class.{Class}
use Rattle.brs_tokens.specs.declared.classes.Class.TheVariants.{Digit, HexDigit, NameByte, LineByte, Unquoted}
use Rattle.brs_tokens.specs.declared.piece.Piece.{Piece}
use Rattle.brs_tokens.specs.declared.piece.PieceKind.TheVariants.{Comment, Token}
use Rattle.brs_tokens.specs.declared.token.TokenKind.TheVariants.{Name, Keyword}

abbrev pub class_test : Class → ℕ → Bool
class_test Digit = is_digit
class_test HexDigit = is_hex_digit
class_test NameByte = is_name_byte
class_test LineByte = stays_in_line
class_test Unquoted = is_unquoted

-- digits, and one `&` if it follows
abbrev pub digits_len : (ℕ → Bool) → List ℕ → ℕ
digits_len digit [] = 0
digits_len digit (b ∷ bs) = if digit b then 1 + digits_len digit bs else if b == 38 then 1 else 0

-- what follows the `&` of a hexadecimal number, or 0
abbrev pub hex_len : List ℕ → ℕ
hex_len [] = 0
hex_len (h ∷ []) = 0
hex_len (h ∷ d ∷ bs) = if (h == 104 || h == 72) && is_hex_digit d then 2 + digits_len is_hex_digit bs else 0

-- n more than a length, where 0 stands for none
abbrev pub longer_by : ℕ → ℕ → ℕ → ℕ
longer_by n none len = if len == 0 then none else n + len

-- what follows the opening quote of a text, or 0
unfoldable pub text_len : List ℕ → ℕ
text_len [] = 0
text_len (b ∷ []) = if b == 34 then 1 else 0
text_len (b ∷ c ∷ bs) =
    if b == 34 then (if c == 34 then longer_by 2 1 (text_len bs) else 1)
    else if b == 10 then 0
    else longer_by 1 0 (text_len (c ∷ bs))

-- one sign of two bytes or of one, or 0
abbrev pub sign_len : List ℕ → ℕ
sign_len [] = 0
sign_len (b ∷ []) = if is_sign (b ∷ []) then 1 else 0
sign_len (b ∷ c ∷ bs) = if is_sign (b ∷ c ∷ []) then 2 else if is_sign (b ∷ []) then 1 else 0

-- a name, a keyword, or a comment by word
abbrev pub word_piece : List ℕ → Piece
word_piece bytes =
    let len = prefix_len is_name_byte bytes in
    let name = take len bytes in
    if is_word (codes "rem") name then record { kind = Comment; len = len + prefix_len stays_in_line (drop len bytes) }
    else record { kind = Token (if is_keyword name then Keyword else Name); len = len }
