-- The spelling of a source file of the first form.
use Rattle.std.specs.Prelude.{ℕ, zero, suc, ◌-◌, Bool, true, false, not, ◌&&◌, ◌||◌, ◌==◌, nat_le, List, [], ◌∷◌, length, take, drop, slice_index, Some, None, codes}
use Rattle.std.specs.List.{list_all}
use Rattle.brs_tokens.specs.Classes.{is_among, is_digit, begins_name}
use Rattle.brs_tokens.specs.Numbers.{magnitude}
use Rattle.brs_tokens.specs.Spelling.{longest_piece}
use Rattle.brs_tokens.specs.declared.piece.PieceKind.{PieceKind}
use Rattle.brs_tokens.specs.declared.piece.PieceKind.TheVariants.{Blank, Comment, Token}
use Rattle.brs_tokens.specs.declared.token.TokenKind.TheVariants.{Newline, Name, Keyword, Number, Text, Sign}

-- a tab, LF, CR, or an ASCII character from 32 to 126
abbrev pub is_plain : ℕ → Bool
is_plain b = b == 9 || b == 10 || b == 13 || (nat_le 32 b && nat_le b 126)

-- decimal digits up to 2,147,483,647, which no letter and no `_` follows directly
abbrev pub is_first_number : List ℕ → ℕ → Bool
is_first_number number next = list_all is_digit number && nat_le (magnitude number) 2147483647 && not (begins_name next)

-- an ASCII character from 32 to 126 other than `"` and `\`
abbrev pub is_text_byte : ℕ → Bool
is_text_byte b = nat_le 32 b && nat_le b 126 && not (b == 34) && not (b == 92)

-- a text with such characters between its quotes, which no `"` follows directly
abbrev pub is_first_text : List ℕ → ℕ → Bool
is_first_text text next = nat_le 2 (length text) && list_all is_text_byte (take (length text - 2) (drop 1 text)) && not (next == 34)

-- one of `+ - = ; ( )`, and neither `+` nor `-` directly before `+`, `-` or `=`
abbrev pub is_first_sign : List ℕ → ℕ → Bool
is_first_sign sign next =
    nat_le (length sign) 1 && is_among (codes "+-=;()") (slice_index sign 0)
    && not (is_among (codes "+-") (slice_index sign 0) && is_among (codes "+-=") next)

-- the piece may stand in a file of the first form, before the byte `next`, which is 0 at the end
abbrev pub is_first_piece : PieceKind → List ℕ → ℕ → Bool
is_first_piece Blank slice next = true
is_first_piece Comment slice next = false
is_first_piece (Token Newline) slice next = true
is_first_piece (Token Name) slice next = true
is_first_piece (Token Keyword) slice next = true
is_first_piece (Token Number) slice next = is_first_number slice next
is_first_piece (Token Text) slice next = is_first_text slice next
is_first_piece (Token Sign) slice next = is_first_sign slice next

-- Each piece of the bytes may stand in a file of the first form. The first `inside` bytes belong to a piece that began before.
-- (The name `rem` begins a comment.)
unfoldable pub are_first_pieces : ℕ → List ℕ → Bool
are_first_pieces inside [] = true
are_first_pieces (suc inside) (b ∷ bs) = are_first_pieces inside bs
are_first_pieces zero (b ∷ bs) = elim (longest_piece (b ∷ bs)) [
  | None ↦ false
  | Some piece ↦ is_first_piece piece.kind (take piece.len (b ∷ bs)) (slice_index (b ∷ bs) piece.len) && are_first_pieces (piece.len - 1) bs
]

-- the bytes, texts, numbers, signs and names are those of the first form
abbrev pub is_first_form : List ℕ → Bool
is_first_form src = list_all is_plain src && are_first_pieces 0 src
