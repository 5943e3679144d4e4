-- The value that a text has for a type of fields.
use Rattle.std.specs.Prelude.{ℕ, ◌^◌, ℤ, pos, negsuc, Bool, true, false, nat_lt, ◌&&◌, if◌then◌else◌, List, [], ◌∷◌, Option, Some, None, codes}
use Rattle.std.specs.Str.{all_ascii_digits}
use Rattle.std.specs.Str.Parse.{without_leading_sign, signed_digits_value}
use Rattle.chan_values.specs.Tree.{Tree, Leaf, Boolean, Integer, LongInteger, Words}
use Rattle.field_types.specs.declared.types.FieldType.{FieldType}
use Rattle.field_types.specs.declared.types.FieldType.TheVariants as t
use Rattle.field_types.specs.Words.{is_alike}
use Rattle.field_types.specs.Opening.{opening_of}

-- one digit or more, and nothing else
abbrev pub is_numeral : List ℕ → Bool
is_numeral [] = false
is_numeral (c ∷ cs) = all_ascii_digits (c ∷ cs)

-- at least -2^bits, and below 2^bits
abbrev pub is_within : ℕ → ℤ → Bool
is_within bits (pos n) = nat_lt n (2 ^ bits)
is_within bits (negsuc n) = nat_lt n (2 ^ bits)

-- a sign, if there is one, and digits, which write a number in the range
abbrev pub is_number : ℕ → List ℕ → Bool
is_number bits text = is_numeral (without_leading_sign text) && is_within bits (signed_digits_value 10 text)

abbrev pub where_empty : List ℕ → Tree → Option Tree
where_empty [] v = Some v
where_empty (c ∷ cs) v = None

-- None where the type doesn't read the text
abbrev pub value_read : FieldType → List ℕ → Option Tree
value_read t.Integer text = if is_number 31 text then Some (Leaf (Integer (signed_digits_value 10 text))) else None
value_read t.LongInteger text = if is_number 63 text then Some (Leaf (LongInteger (signed_digits_value 10 text))) else None
value_read t.Boolean text = if is_alike (codes "true") text then Some (Leaf (Boolean true)) else (if is_alike (codes "false") text then Some (Leaf (Boolean false)) else None)
value_read t.String text = Some (Leaf (Words text))
value_read k text = where_empty text (opening_of k)
