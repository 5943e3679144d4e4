-- Classes of bytes.
-- Source: BrightScript Language Reference, "Identifiers" and "Literals".
use Rattle.std.specs.Prelude.{ℕ, Bool, not, ◌&&◌, ◌||◌, ◌==◌, nat_le, List}
use Rattle.std.specs.List.{list_any}

-- bytes by their names
abbrev pub line_feed : ℕ
line_feed = 10

abbrev pub quote : ℕ
quote = 34

abbrev pub ampersand : ℕ
ampersand = 38

abbrev pub apostrophe : ℕ
apostrophe = 39

abbrev pub dot : ℕ
dot = 46

abbrev pub slash : ℕ
slash = 47

-- the byte is one of these
abbrev pub is_among : List ℕ → ℕ → Bool
is_among bytes b = list_any (λ x. x == b) bytes

-- a space, a tab or a carriage return
abbrev pub is_blank : ℕ → Bool
is_blank b = b == 32 || b == 9 || b == 13

-- any byte but a line feed
abbrev pub stays_in_line : ℕ → Bool
stays_in_line b = not (b == line_feed)

abbrev pub is_digit : ℕ → Bool
is_digit b = nat_le 48 b && nat_le b 57

-- 0 to 9, A to F, a to f
abbrev pub is_hex_digit : ℕ → Bool
is_hex_digit b = is_digit b || (nat_le 65 b && nat_le b 70) || (nat_le 97 b && nat_le b 102)

-- an ASCII letter or `_`
abbrev pub begins_name : ℕ → Bool
begins_name b = (nat_le 65 b && nat_le b 90) || (nat_le 97 b && nat_le b 122) || b == 95

-- a letter, a digit or `_`
abbrev pub is_name_byte : ℕ → Bool
is_name_byte b = begins_name b || is_digit b

-- any byte but a quote
abbrev pub is_unquoted : ℕ → Bool
is_unquoted b = not (b == quote)
