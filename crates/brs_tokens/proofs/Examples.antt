-- The definition of spelling, computed on short texts.
use Rattle.std.proofs.Common.{◌≡◌, ℕ, true, false, List, [], ◌∷◌, ◌++◌, Result, Ok, Err, map, refl}
use Rattle.std.specs.Prelude.{codes}
use Rattle.std.specs.Char.{encode_utf8}
use Rattle.std.specs.Str.{is_utf8, chars}
use Rattle.std.specs.Str.Lossy.{utf8_valid_len}
use Rattle.brs_tokens.specs.Tok.{Tok}
use Rattle.brs_tokens.specs.Pieces.{is_keyword, is_sign, word_kind, piece_kind}
use Rattle.brs_tokens.specs.Spelling.{longest_within, piece_at, spelling_from, spelling}
use Rattle.brs_tokens.specs.Cuts.{AreTokens, IsFirstFault}
use Rattle.brs_tokens.specs.FirstForm.{are_first_pieces, is_first_form}
use Rattle.brs_tokens.specs.declared.lex_fault.LexFault.{LexFault}
use Rattle.brs_tokens.specs.declared.lex_fault.LexKind.{LexKind}
use Rattle.brs_tokens.specs.declared.lex_fault.LexKind.TheVariants.{NotUtf8, BadCharacter, OpenText, FloatLiteral, Slash, NumberTooLarge}
use Rattle.brs_tokens.specs.declared.token.TokenKind.{TokenKind}
use Rattle.brs_tokens.specs.declared.token.TokenKind.TheVariants.{Newline, Name, Keyword, Number, Text, Sign}
use Rattle.brs_tokens.proofs.Spelled.{spelled-tokens, spelled-fault}

abbrev fault : LexKind → ℕ → ℕ → Result (List Tok) LexFault
fault kind line column = Err (record { kind = kind; line = line; column = column })

abbrev tok : TokenKind → List ℕ → ℕ → ℕ → Tok
tok kind slice line column = record { kind = kind; slice = slice; line = line; column = column }

point : spelling (codes "x = 1.5") 3 ≡ fault FloatLiteral 3 5
unfolding spelling_from piece_at longest_within piece_kind word_kind is_keyword is_sign utf8_valid_len is_utf8 chars encode_utf8
point = refl

slash : spelling (codes "x = 4/2") 1 ≡ fault Slash 1 6
unfolding spelling_from piece_at longest_within piece_kind word_kind is_keyword is_sign utf8_valid_len is_utf8 chars encode_utf8
slash = refl

-- a text with an odd run of quotes before the end of its line
odd_quotes : spelling (codes "\"a\"\"" ++ 10 ∷ []) 1 ≡ fault OpenText 1 4
unfolding spelling_from piece_at longest_within piece_kind word_kind is_keyword is_sign utf8_valid_len is_utf8 chars encode_utf8
odd_quotes = refl

exponent : spelling (codes "1e5") 1 ≡ fault FloatLiteral 1 1
unfolding spelling_from piece_at longest_within piece_kind word_kind is_keyword is_sign utf8_valid_len is_utf8 chars encode_utf8
exponent = refl

capital_exponent : spelling (codes "1E5") 1 ≡ Ok (tok Number (codes "1") 1 1 ∷ tok Name (codes "E5") 1 2 ∷ [])
unfolding spelling_from piece_at longest_within piece_kind word_kind is_keyword is_sign utf8_valid_len is_utf8 chars encode_utf8
capital_exponent = refl

comment_after_a_dot : spelling (codes "a.rem b") 1 ≡ Ok (tok Name (codes "a") 1 1 ∷ tok Sign (codes ".") 1 2 ∷ [])
unfolding spelling_from piece_at longest_within piece_kind word_kind is_keyword is_sign utf8_valid_len is_utf8 chars encode_utf8
comment_after_a_dot = refl

long_then_name : spelling (codes "1&h2") 1 ≡ Ok (tok Number (codes "1&") 1 1 ∷ tok Name (codes "h2") 1 3 ∷ [])
unfolding spelling_from piece_at longest_within piece_kind word_kind is_keyword is_sign utf8_valid_len is_utf8 chars encode_utf8
long_then_name = refl

-- the second line begins after the LF, and a CR is a space
lines : spelling (codes "End" ++ 13 ∷ 10 ∷ codes " <=") 1
    ≡ Ok (tok Keyword (codes "End") 1 1 ∷ tok Newline (10 ∷ []) 1 5 ∷ tok Sign (codes "<=") 2 2 ∷ [])
unfolding spelling_from piece_at longest_within piece_kind word_kind is_keyword is_sign utf8_valid_len is_utf8 chars encode_utf8
lines = refl

-- the byte that begins no character stands inside a text
not_utf8 : spelling (34 ∷ 255 ∷ 34 ∷ []) 1 ≡ fault NotUtf8 1 2
unfolding spelling_from piece_at longest_within piece_kind word_kind is_keyword is_sign utf8_valid_len is_utf8 chars encode_utf8
not_utf8 = refl

-- the text doesn't end in its line, and its quote is earlier
open_before_not_utf8 : spelling (34 ∷ 255 ∷ 10 ∷ []) 1 ≡ fault OpenText 1 1
unfolding spelling_from piece_at longest_within piece_kind word_kind is_keyword is_sign utf8_valid_len is_utf8 chars encode_utf8
open_before_not_utf8 = refl

-- the bytes of the byte order mark count in their line, and a second one is no piece
marks : spelling (0xEF ∷ 0xBB ∷ 0xBF ∷ 0xEF ∷ 0xBB ∷ 0xBF ∷ []) 1 ≡ fault BadCharacter 1 4
unfolding spelling_from piece_at longest_within piece_kind word_kind is_keyword is_sign utf8_valid_len is_utf8 chars encode_utf8
marks = refl

doubled_quotes : spelling (codes "\"a\"\"b\"") 7 ≡ Ok (tok Text (codes "\"a\"\"b\"") 7 1 ∷ [])
unfolding spelling_from piece_at longest_within piece_kind word_kind is_keyword is_sign utf8_valid_len is_utf8 chars encode_utf8
doubled_quotes = refl

too_large : spelling (codes "9223372036854775808") 1 ≡ fault NumberTooLarge 1 1
unfolding spelling_from piece_at longest_within piece_kind word_kind is_keyword is_sign utf8_valid_len is_utf8 chars encode_utf8
too_large = refl

hexadecimal : spelling (codes "&hFf") 1 ≡ Ok (tok Number (codes "&hFf") 1 1 ∷ [])
unfolding spelling_from piece_at longest_within piece_kind word_kind is_keyword is_sign utf8_valid_len is_utf8 chars encode_utf8
hexadecimal = refl

-- which bytes are those of the first form
first_forms : map is_first_form (codes "x=2147483647" ∷ codes "x=2147483648" ∷ codes "1a" ∷ codes "+-" ∷ codes "\"a\"\"\"" ∷ codes "rem" ∷ codes "x = -1" ∷ [])
    ≡ true ∷ false ∷ false ∷ false ∷ false ∷ false ∷ true ∷ []
unfolding are_first_pieces longest_within piece_kind word_kind is_keyword is_sign
first_forms = refl

-- the same by the definitions: a comment is no token, and which of two faults is the first
tokens_without_comment : AreTokens (codes "a.rem b") 1 (tok Name (codes "a") 1 1 ∷ tok Sign (codes ".") 1 2 ∷ [])
tokens_without_comment = spelled-tokens (codes "a.rem b") 1 _ comment_after_a_dot

fault_inside_a_text : IsFirstFault (34 ∷ 255 ∷ 34 ∷ []) 1 (record { kind = NotUtf8; line = 1; column = 2 })
fault_inside_a_text = spelled-fault (34 ∷ 255 ∷ 34 ∷ []) 1 _ not_utf8

fault_of_the_quote : IsFirstFault (34 ∷ 255 ∷ 10 ∷ []) 1 (record { kind = OpenText; line = 1; column = 1 })
fault_of_the_quote = spelled-fault (34 ∷ 255 ∷ 10 ∷ []) 1 _ open_before_not_utf8
