-- The test of a class of bytes, and values behind references.
use Rattle.std.specs.Prelude.{ℕ, Bool, List, Option, Some, None}
use denote.Ref.{Bor}
use Rattle.xml_pieces.specs.Written.{is_space, is_name_byte, is_attribute_byte, differs, is_decimal, is_hexadecimal}
use Rattle.xml_pieces.specs.declared.bytes.Class.{Class}
use Rattle.xml_pieces.specs.declared.bytes.Class.TheVariants as class

abbrev pub class_test : Class → ℕ → Bool
class_test class.Space = is_space
class_test class.TagName = is_name_byte
class_test class.AttributeName = is_attribute_byte
class_test class.Decimal = is_decimal
class_test class.Hexadecimal = is_hexadecimal
class_test (class.But c) = differs c

abbrev pub option_now : Option (Bor (List ℕ)) → Option (List ℕ)
option_now None = None
option_now (Some r) = Some r.now

abbrev pub pair_now : Option (Bor (List ℕ) × Bor (List ℕ)) → Option (List ℕ × List ℕ)
pair_now None = None
pair_now (Some r) = Some (r.0.now, r.1.now)
