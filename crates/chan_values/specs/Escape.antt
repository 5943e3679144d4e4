-- How a text stands in a line that is written.
use Rattle.std.specs.Prelude.{ℕ, ◌/◌, ◌%◌, List, [], ◌∷◌, ◌==◌, ◌||◌, nat_lt, if◌then◌else◌}
use Rattle.std.specs.Char.{digit_char}
use Rattle.std.specs.List.{flat_map}

-- a byte below 32, 127 and `\` as `\` and two hexadecimal digits, and any other byte as it is
abbrev pub escaped_byte : ℕ → List ℕ
escaped_byte b = if nat_lt b 32 || (b == 127 || b == 92) then 92 ∷ digit_char (b / 16) ∷ digit_char (b % 16) ∷ [] else (b ∷ [])

abbrev pub escaped : List ℕ → List ℕ
escaped bytes = flat_map escaped_byte bytes
