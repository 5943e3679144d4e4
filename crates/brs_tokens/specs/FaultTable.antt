-- The table of lexical faults: what holds of the bytes from the fault on.
use Rattle.std.specs.Prelude.{◌≡◌, ◌≢◌, ◌⊎◌, ℕ, true, List, [], ◌∷◌, ◌++◌, codes}
use Rattle.std.specs.Char.{IsScalar, encode_utf8}
use Rattle.brs_tokens.specs.Classes.{quote, dot, slash, is_digit}
use Rattle.brs_tokens.specs.Numbers.{is_too_large}
use Rattle.brs_tokens.specs.Kinds.{AreAll, AreSome, IsText, Spells, Begins, IsLongestPiece}
use Rattle.brs_tokens.specs.declared.piece.PieceKind.{PieceKind}
use Rattle.brs_tokens.specs.declared.piece.PieceKind.TheVariants.{Token}
use Rattle.brs_tokens.specs.declared.token.TokenKind.TheVariants.{Number}
use Rattle.brs_tokens.specs.declared.lex_fault.LexKind.{LexKind}
use Rattle.brs_tokens.specs.declared.lex_fault.LexKind.TheVariants.{NotUtf8, BadCharacter, OpenText, FloatLiteral, Slash, NumberTooLarge}

-- a character, in UTF-8
abbrev pub IsCharacter : List ℕ → Type 0
IsCharacter bytes = (c : ℕ) × IsScalar c × (bytes ≡ encode_utf8 c)

-- digits, perhaps none, a `.` and a digit
pub record IsPointed (bytes : List ℕ) : Type 0 where
  pub digits : List ℕ
  pub last : ℕ
  pub bytes_are : bytes ≡ digits ++ dot ∷ last ∷ []
  pub all : AreAll is_digit digits
  pub ends : is_digit last ≡ true

-- digits, an `e` or a `d`, at most one sign, and a digit
pub record IsScaled (bytes : List ℕ) : Type 0 where
  pub digits : List ℕ
  pub letter : ℕ
  pub sign : List ℕ
  pub last : ℕ
  pub bytes_are : bytes ≡ digits ++ letter ∷ (sign ++ last ∷ [])
  pub some : AreSome is_digit digits
  pub scale : (letter ≡ 101) ⊎ (letter ≡ 100)
  pub signed : (sign ≡ []) ⊎ ((sign ≡ codes "+") ⊎ (sign ≡ codes "-"))
  pub ends : is_digit last ≡ true

-- a number with a point or an exponent
abbrev pub IsFloat : List ℕ → Type 0
IsFloat bytes = IsPointed bytes ⊎ IsScaled bytes

-- the opening quote of a text that doesn't end in its line
abbrev pub IsOpenText : List ℕ → Type 0
IsOpenText bytes = Begins (λ front. front ≡ quote ∷ []) bytes × (Begins IsText bytes → ⊥)

abbrev pub BeginsSlash : List ℕ → Type 0
BeginsSlash bytes = Begins (λ front. front ≡ slash ∷ []) bytes

-- The longest piece is a number, and it is too large.
pub record IsTooLarge (bytes : List ℕ) : Type 0 where
  pub number : List ℕ
  pub behind : List ℕ
  pub bytes_are : bytes ≡ number ++ behind
  pub longest : IsLongestPiece (Token Number) number behind
  pub too_large : is_too_large number ≡ true

-- The row of the table holds of these bytes. A slash, a quote and the digits of a float are faults of their own kinds alone.
abbrev pub Row : LexKind → List ℕ → Type 0
Row NotUtf8 bytes = (bytes ≢ []) × (Begins IsCharacter bytes → ⊥)
Row BadCharacter bytes = Begins IsCharacter bytes × ((kind : PieceKind) → Begins (Spells kind) bytes → ⊥) × (BeginsSlash bytes → ⊥) × (IsOpenText bytes → ⊥)
Row OpenText bytes = IsOpenText bytes
Row FloatLiteral bytes = Begins IsFloat bytes
Row Slash bytes = BeginsSlash bytes
Row NumberTooLarge bytes = IsTooLarge bytes × (Begins IsFloat bytes → ⊥)
