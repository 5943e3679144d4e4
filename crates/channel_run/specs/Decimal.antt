-- Numbers as scripts and words spell them.
use Rattle.std.specs.Prelude.{ℕ, Bool, ◌+◌, ◌-◌, ◌*◌, ◌==◌, ◌&&◌, ◌||◌, not, nat_lt, nat_le, List, length, fold, Option, None, Some, if◌then◌else◌, slice_index}
use Rattle.std.specs.List.{list_all}

abbrev pub is_digit : ℕ → Bool
is_digit c = nat_le 48 c && nat_le c 57

-- the number that decimal digits stand for
abbrev pub value_of : List ℕ → ℕ
value_of digits = fold (λ n c. n * 10 + (c - 48)) 0 digits

-- digits, without a leading zero but for the number 0
abbrev pub is_number : List ℕ → Bool
is_number word = nat_lt 0 (length word) && list_all is_digit word && (length word == 1 || not (slice_index word 0 == 48))

-- the number of a word that spells one of at most this limit
abbrev pub number_up_to : ℕ → List ℕ → Option ℕ
number_up_to limit word = if is_number word && nat_le (value_of word) limit then Some (value_of word) else None
