-- The token list of a source file, or its first lexical fault, as they are computed byte by byte. What they are is defined in
-- `Kinds`, `FaultTable` and `Cuts`, and the crate's laws say that the two agree.
use Rattle.std.specs.Prelude.{ℕ, zero, suc, ◌+◌, ◌-◌, Bool, true, false, ◌&&◌, ◌||◌, ◌==◌, nat_lt, if◌then◌else◌, List, [], ◌∷◌, ◌++◌, length, take, drop, slice_index, Option, Some, None, Result, Ok, Err}
use Rattle.std.specs.List.{prefix_len}
use Rattle.std.specs.Str.Lossy.{utf8_valid_len}
use Rattle.brs_tokens.specs.Classes.{line_feed, quote, dot, slash, is_digit}
use Rattle.brs_tokens.specs.Numbers.{is_too_large}
use Rattle.brs_tokens.specs.Pieces.{piece_kind}
use Rattle.brs_tokens.specs.Tok.{Tok}
use Rattle.brs_tokens.specs.declared.piece.PieceKind.{PieceKind}
use Rattle.brs_tokens.specs.declared.piece.PieceKind.TheVariants as kind
use Rattle.brs_tokens.specs.declared.piece.Piece.{Piece}
use Rattle.brs_tokens.specs.declared.place.Place.{Place}
use Rattle.brs_tokens.specs.declared.token.TokenKind.TheVariants as token
use Rattle.brs_tokens.specs.declared.lex_fault.LexKind.{LexKind}
use Rattle.brs_tokens.specs.declared.lex_fault.LexKind.TheVariants.{NotUtf8, BadCharacter, OpenText, FloatLiteral, Slash, NumberTooLarge}
use Rattle.brs_tokens.specs.declared.lex_fault.LexFault.{LexFault}

-- the longest piece among the first n bytes that begins where they begin
unfoldable pub longest_within : ℕ → List ℕ → Option Piece
longest_within zero bytes = None
longest_within (suc n) bytes = elim (piece_kind (take (suc n) bytes)) [ Some kind ↦ Some (record { kind = kind; len = suc n }) | None ↦ longest_within n bytes ]

-- the longest piece that begins where the bytes begin
abbrev pub longest_piece : List ℕ → Option Piece
longest_piece bytes = longest_within (length bytes) bytes

-- the bytes are an `e` or a `d`, at most one sign, and a digit, and more
abbrev pub begins_exponent : List ℕ → Bool
begins_exponent bytes =
    (slice_index bytes 0 == 101 || slice_index bytes 0 == 100)
    && (is_digit (slice_index bytes 1) || ((slice_index bytes 1 == 43 || slice_index bytes 1 == 45) && is_digit (slice_index bytes 2)))

-- Digits followed by `.` and a digit, or by an exponent, or a `.` followed by a digit.
abbrev pub begins_float : List ℕ → Bool
begins_float bytes =
    let digits = prefix_len is_digit bytes in
    let after = drop digits bytes in
    (slice_index after 0 == dot && is_digit (slice_index after 1)) || (nat_lt 0 digits && begins_exponent after)

-- why no piece begins with this byte
abbrev pub stray_kind : ℕ → LexKind
stray_kind b = if b == slash then Slash else if b == quote then OpenText else BadCharacter

abbrev pub is_number : PieceKind → Bool
is_number (kind.Token token.Number) = true
is_number _ = false

-- the piece where the bytes begin, or the fault there
unfoldable pub piece_at : List ℕ → Result Piece LexKind
piece_at bytes =
    if begins_float bytes then Err FloatLiteral
    else elim (longest_piece bytes) [
      | None ↦ Err (stray_kind (slice_index bytes 0))
      | Some piece ↦ if is_number piece.kind && is_too_large (take piece.len bytes) then Err NumberTooLarge else Ok piece
    ]

-- the place after a byte
abbrev pub after_byte : Place → ℕ → Place
after_byte p b = if b == line_feed then record { line = p.line + 1; column = 1 } else record { line = p.line; column = p.column + 1 }

-- the place after these bytes
abbrev pub place_after : Place → List ℕ → Place
place_after p [] = p
place_after p (b ∷ bs) = place_after (after_byte p b) bs

abbrev pub fault_at : LexKind → Place → LexFault
fault_at kind p = record { kind = kind; line = p.line; column = p.column }

-- the token of a piece: spaces and comments make none
abbrev pub token_of : PieceKind → List ℕ → Place → List Tok
token_of (kind.Token kind) slice p = record { kind = kind; slice = slice; line = p.line; column = p.column } ∷ []
token_of _ slice p = []

abbrev pub with_tokens : List Tok → Result (List Tok) LexFault → Result (List Tok) LexFault
with_tokens tokens (Ok more) = Ok (tokens ++ more)
with_tokens tokens (Err fault) = Err fault

-- The tokens of the bytes from place p on, of which the first `good` are characters and the first `inside` belong to a piece
-- that began before. Each byte is looked at in turn: one that begins no character is a fault; inside a piece there is nothing
-- to say; where a piece ends the next one begins.
unfoldable pub spelling_from : ℕ → ℕ → Place → List ℕ → Result (List Tok) LexFault
spelling_from good inside p [] = Ok []
spelling_from zero inside p (b ∷ bs) = Err (fault_at NotUtf8 p)
spelling_from (suc good) (suc inside) p (b ∷ bs) = spelling_from good inside (after_byte p b) bs
spelling_from (suc good) zero p (b ∷ bs) = elim (piece_at (b ∷ bs)) [
  | Err kind ↦ Err (fault_at kind p)
  | Ok piece ↦ with_tokens (token_of piece.kind (take piece.len (b ∷ bs)) p) (spelling_from good (piece.len - 1) (after_byte p b) bs)
]

-- the length of the byte order mark at the start, or 0
abbrev pub mark_len : List ℕ → ℕ
mark_len src = if slice_index src 0 == 0xEF && slice_index src 1 == 0xBB && slice_index src 2 == 0xBF then 3 else 0

-- The token list of a source file (`AreTokens`), or its first lexical fault (`IsFirstFault`). Columns are counted in bytes from 1,
-- and the byte order mark counts in its line.
abbrev pub spelling : List ℕ → ℕ → Result (List Tok) LexFault
spelling src first_line = spelling_from (utf8_valid_len src) (mark_len src) (record { line = first_line; column = 1 }) src
