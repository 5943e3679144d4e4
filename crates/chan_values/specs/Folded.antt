-- Names without regard to the case of ASCII letters.
use Rattle.std.specs.Prelude.{ℕ, ◌+◌, ◌&&◌, nat_le, List, map, if◌then◌else◌}

-- a capital letter as the small one, and any other byte as it is
abbrev pub folded_byte : ℕ → ℕ
folded_byte b = if nat_le 65 b && nat_le b 90 then b + 32 else b

abbrev pub folded : List ℕ → List ℕ
folded name = map folded_byte name
