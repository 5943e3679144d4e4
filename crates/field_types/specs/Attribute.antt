-- The value that the text of an attribute gives a field.
use Rattle.std.specs.Prelude.{◌≡◌, ◌⊎◌, ℕ, List, [], true, false, Result, Ok, Err, FitsSigned, IsTrue, codes}
use Rattle.std.specs.Str.Parse.{IsNumeral, without_leading_sign, signed_digits_value}
use mir.Syntax.{Width, w32, w64}
use Rattle.chan_values.specs.declared.portable.Portable.{Portable}
use Rattle.chan_values.specs.Tree.{Tree, Leaf, Boolean, Integer, LongInteger, Words}
use Rattle.chan_values.specs.View.{tree_of}
use Rattle.field_types.specs.declared.types.FieldType.{FieldType}
use Rattle.field_types.specs.declared.types.FieldType.TheVariants as t
use Rattle.field_types.specs.declared.attribute.AttributeAnswer.{AttributeAnswer}
use Rattle.field_types.specs.declared.attribute.AttributeAnswer.TheVariants.{BadText, NoMemory}
use Rattle.field_types.specs.Words.{is_alike}
use Rattle.field_types.specs.Opening.{opening_of}

-- a sign, if there is one, and decimal digits, which write a number of this width
abbrev pub IsNumber : Width → List ℕ → Type 0
IsNumber w text = IsNumeral 10 (without_leading_sign text) × FitsSigned w (signed_digits_value 10 text)

-- the types without texts of their own read the empty text alone
abbrev pub Reads : FieldType → List ℕ → Tree → Type 0
Reads t.Integer text v = IsNumber w32 text × (v ≡ Leaf (Integer (signed_digits_value 10 text)))
Reads t.LongInteger text v = IsNumber w64 text × (v ≡ Leaf (LongInteger (signed_digits_value 10 text)))
Reads t.Boolean text v = (IsTrue (is_alike (codes "true") text) × (v ≡ Leaf (Boolean true))) ⊎ (IsTrue (is_alike (codes "false") text) × (v ≡ Leaf (Boolean false)))
Reads t.String text v = v ≡ Leaf (Words text)
Reads k text v = (text ≡ []) × (v ≡ opening_of k)

-- the value that the text has, or that it has none
abbrev pub Answers : FieldType → List ℕ → Result Portable AttributeAnswer → Type 0
Answers k text (Ok p) = Reads k text (tree_of p)
Answers k text (Err BadText) = (v : Tree) → Reads k text v → ⊥
Answers k text (Err NoMemory) = Unit {0}
