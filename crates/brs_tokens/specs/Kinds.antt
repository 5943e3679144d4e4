-- How each kind of piece is spelled, and the longest piece that begins with some bytes.
-- Source: BrightScript Language Reference, "Identifiers", "Reserved Words", "REM", "Literals (Constants)" and "Operators".
use Rattle.std.specs.Prelude.{◌≡◌, ◌≢◌, ◌⊎◌, ℕ, Bool, true, false, ◌==◌, if◌then◌else◌, List, [], ◌∷◌, ◌++◌, slice_index, codes}
use Rattle.std.specs.List.{list_all, flat_map}
use Rattle.brs_tokens.specs.Classes.{line_feed, quote, ampersand, apostrophe, is_blank, stays_in_line, is_digit, is_hex_digit, begins_name, is_name_byte}
use Rattle.brs_tokens.specs.Pieces.{is_word, is_keyword, is_sign}
use Rattle.brs_tokens.specs.declared.piece.PieceKind.{PieceKind}
use Rattle.brs_tokens.specs.declared.piece.PieceKind.TheVariants.{Blank, Comment, Token}
use Rattle.brs_tokens.specs.declared.token.TokenKind.TheVariants.{Newline, Name, Keyword, Number, Text, Sign}

-- each byte is of the class
abbrev pub AreAll : (ℕ → Bool) → List ℕ → Type 0
AreAll class bytes = list_all class bytes ≡ true

-- one byte or more, each of the class
abbrev pub AreSome : (ℕ → Bool) → List ℕ → Type 0
AreSome class bytes = (bytes ≢ []) × AreAll class bytes

-- a space, a tab or a carriage return
abbrev pub IsSpace : List ℕ → Type 0
IsSpace bytes = (b : ℕ) × (bytes ≡ b ∷ []) × (is_blank b ≡ true)

-- a letter or `_`, and then letters, digits and `_`
abbrev pub IsName : List ℕ → Type 0
IsName bytes = (first : ℕ) × (more : List ℕ) × (bytes ≡ first ∷ more) × (begins_name first ≡ true) × AreAll is_name_byte more

-- the word `rem` in any case
abbrev pub IsRem : List ℕ → Type 0
IsRem name = is_word (codes "rem") name ≡ true

-- no letter, digit or `_` stands first
abbrev pub EndsName : List ℕ → Type 0
EndsName bytes = is_name_byte (slice_index bytes 0) ≡ false

-- a `'`, or the whole word `rem`, and then bytes of its line
pub record IsComment (bytes : List ℕ) : Type 0 where
  pub mark : List ℕ
  pub line : List ℕ
  pub bytes_are : bytes ≡ mark ++ line
  pub begins : (mark ≡ apostrophe ∷ []) ⊎ (IsRem mark × EndsName line)
  pub in_line : AreAll stays_in_line line

-- `&`, an `h` of either case, and hexadecimal digits
abbrev pub IsHexadecimal : List ℕ → Type 0
IsHexadecimal bytes = (h : ℕ) × (digits : List ℕ) × (bytes ≡ ampersand ∷ h ∷ digits) × ((h ≡ 104) ⊎ (h ≡ 72)) × AreSome is_hex_digit digits

-- decimal digits, or `&h` and hexadecimal digits, and then at most one `&`
pub record IsNumber (bytes : List ℕ) : Type 0 where
  pub digits : List ℕ
  pub end : List ℕ
  pub bytes_are : bytes ≡ digits ++ end
  pub written : AreSome is_digit digits ⊎ IsHexadecimal digits
  pub ends : (end ≡ []) ⊎ (end ≡ ampersand ∷ [])

-- the bytes with each quote written twice
abbrev pub quotes_doubled : List ℕ → List ℕ
quotes_doubled bytes = flat_map (λ b. if b == quote then quote ∷ quote ∷ [] else b ∷ []) bytes

-- a quote, bytes of one line in which each quote is written twice, and a quote
abbrev pub IsText : List ℕ → Type 0
IsText bytes = (inner : List ℕ) × (bytes ≡ quote ∷ (quotes_doubled inner ++ quote ∷ [])) × AreAll stays_in_line inner

-- The bytes, taken whole, are a piece of this kind. A keyword is a name of the list, and the name `rem` is a comment.
abbrev pub Spells : PieceKind → List ℕ → Type 0
Spells Blank bytes = IsSpace bytes
Spells Comment bytes = IsComment bytes
Spells (Token Newline) bytes = bytes ≡ line_feed ∷ []
Spells (Token Name) bytes = IsName bytes × (is_keyword bytes ≡ false) × (is_word (codes "rem") bytes ≡ false)
Spells (Token Keyword) bytes = IsName bytes × (is_keyword bytes ≡ true)
Spells (Token Number) bytes = IsNumber bytes
Spells (Token Text) bytes = IsText bytes
Spells (Token Sign) bytes = is_sign bytes ≡ true

-- Some front of the bytes is such.
pub record Begins (Is : List ℕ → Type 0) (bytes : List ℕ) : Type 0 where
  pub front : List ℕ
  pub behind : List ℕ
  pub bytes_are : bytes ≡ front ++ behind
  pub is : Is front

-- The piece stands before these bytes, and no longer one begins where it does.
pub record IsLongestPiece (kind : PieceKind) (piece behind : List ℕ) : Type 0 where
  pub spells : Spells kind piece
  pub longest : (other : PieceKind) (more rest : List ℕ) → behind ≡ more ++ rest → Spells other (piece ++ more) → more ≡ []
