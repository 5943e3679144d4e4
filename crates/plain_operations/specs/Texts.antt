-- Parts of texts, places in them, and the numbers that they write. Places and counts are those of characters.
use Rattle.std.specs.Prelude.{ℕ, ℤ, pos, negsuc, neg_ℤ, ◌+◌, ◌-◌, Bool, ◌&&◌, ◌||◌, nat_eq, nat_lt, nat_le, ◌==◌, List, [], ◌∷◌, length, take, drop, slice_index, if◌then◌else◌, codes}
use Rattle.std.specs.List.{starts_with, prefix_len, suffix_len, take_while}
use Rattle.std.specs.Int.{w32, int_wrap, is_negative}
use Rattle.std.specs.Char.{encode_utf8, is_ascii_digit}
use Rattle.std.specs.Str.{chars, encode_utf8_all}
use Rattle.std.specs.Str.Parse.{digits_value, starts_with_minus, without_leading_plus}
use Rattle.std.specs.Fmt.{signed_decimal}
use lib.Utf8.{scalar}

-- how many characters a text has
abbrev pub character_count : List ℕ → ℕ
character_count s = length (chars s)

-- the number of the first character, 0 for the empty text
abbrev pub first_character : List ℕ → ℕ
first_character s = slice_index (chars s) 0

-- the character with this number, and the empty text for 0 and for what is no character
abbrev pub character_text : ℤ → List ℕ
character_text (pos n) = if nat_lt 0 n && scalar n then encode_utf8 n else []
character_text (negsuc n) = []

-- a count below 0 counts as 0
abbrev pub counted : ℤ → ℕ
counted (pos n) = n
counted (negsuc n) = 0

-- how many characters stand before a place; places are counted from 1, and one below 1 counts as 1
abbrev pub before_place : ℤ → ℕ
before_place p = counted p - 1

-- the first n characters
abbrev pub left_part : List ℕ → ℤ → List ℕ
left_part s n = encode_utf8_all (take (counted n) (chars s))

-- the last n characters
abbrev pub right_part : List ℕ → ℤ → List ℕ
right_part s n = encode_utf8_all (drop (character_count s - counted n) (chars s))

-- the characters from a place on
abbrev pub rest_from : List ℕ → ℤ → List ℕ
rest_from s p = encode_utf8_all (drop (before_place p) (chars s))

-- at most n characters from a place on
abbrev pub middle_part : List ℕ → ℤ → ℤ → List ℕ
middle_part s p n = encode_utf8_all (take (counted n) (drop (before_place p) (chars s)))

-- the least place at which some characters stand in a list of them whose first has place `at`, and 0 for none
abbrev pub least_place : (at : ℕ) → List ℕ → List ℕ → ℕ
least_place at [] ts = if starts_with nat_eq [] ts then at else 0
least_place at (c ∷ cs) ts = if starts_with nat_eq (c ∷ cs) ts then at else least_place (at + 1) cs ts

-- the least place from p on at which t stands in s, and 0 for none: the empty text stands last just behind the last character
abbrev pub place_in : ℤ → List ℕ → List ℕ → ℕ
place_in p s t = if nat_le (before_place p) (character_count s) then least_place (before_place p + 1) (drop (before_place p) (chars s)) (chars t) else 0

-- the text without the spaces and tabs at both ends
abbrev pub is_blank : ℕ → Bool
is_blank c = c == 32 || c == 9

abbrev pub without_first_blanks : List ℕ → List ℕ
without_first_blanks s = drop (prefix_len is_blank s) s

abbrev pub without_end_blanks : List ℕ → List ℕ
without_end_blanks s = take (length s - suffix_len is_blank s) s

abbrev pub trimmed : List ℕ → List ℕ
trimmed s = without_end_blanks (without_first_blanks s)

-- the number that the digits at the start write, 0 where there is none
abbrev pub leading_number : List ℕ → ℕ
leading_number s = digits_value 10 (take_while is_ascii_digit s)

-- a sign, if there is one, and digits
abbrev pub signed_number : List ℕ → ℤ
signed_number s = if starts_with_minus s then neg_ℤ (pos (leading_number (drop 1 s))) else pos (leading_number (without_leading_plus s))

-- the Integer that a text writes behind its first spaces
abbrev pub number_in : List ℕ → ℤ
number_in s = int_wrap w32 (signed_number (drop (prefix_len (λ b. b == 32) s) s))

-- decimal, with a space in the place of a minus
abbrev pub spaced_decimal : ℤ → List ℕ
spaced_decimal n = if is_negative n then signed_decimal n else 32 ∷ signed_decimal n

abbrev pub truth_text : Bool → List ℕ
truth_text b = if b then codes "true" else codes "false"
