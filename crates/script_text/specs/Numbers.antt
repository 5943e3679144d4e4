-- Numbers without signs and leading zeros.
use Rattle.std.specs.Prelude.{ℕ, Bool, ◌==◌, ◌&&◌, not, nat_lt, List, length, slice_index}

-- the text has no `+` in front, and no zero in front of another byte
abbrev pub is_plain : List ℕ → Bool
is_plain text = not (slice_index text 0 == 43) && not (slice_index text 0 == 48 && nat_lt 1 (length text))
