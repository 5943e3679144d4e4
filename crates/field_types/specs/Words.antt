-- The words of the types of fields.
use Rattle.std.specs.Prelude.{ℕ, Bool, List, [], ◌∷◌, Option, Some, None, if◌then◌else◌, codes}
use Rattle.std.specs.Str.{bytes_eq}
use Rattle.chan_values.specs.Folded.{folded}
use Rattle.field_types.specs.declared.types.FieldType.{FieldType}
use Rattle.field_types.specs.declared.types.FieldType.TheVariants as t

abbrev pub type_words : List (List ℕ × FieldType)
type_words =
    (codes "integer", t.Integer)
    ∷ (codes "int", t.Integer)
    ∷ (codes "longinteger", t.LongInteger)
    ∷ (codes "long", t.LongInteger)
    ∷ (codes "boolean", t.Boolean)
    ∷ (codes "bool", t.Boolean)
    ∷ (codes "string", t.String)
    ∷ (codes "str", t.String)
    ∷ (codes "uri", t.String)
    ∷ (codes "color", t.String)
    ∷ (codes "node", t.Node)
    ∷ (codes "assocarray", t.AssocArray)
    ∷ (codes "array", t.Array)
    ∷ (codes "stringarray", t.StringArray)
    ∷ (codes "intarray", t.IntArray)
    ∷ (codes "boolarray", t.BoolArray)
    ∷ (codes "nodearray", t.NodeArray)
    ∷ []

-- whether two words differ at most in the case of their letters
unfoldable pub is_alike : List ℕ → List ℕ → Bool
is_alike a b = bytes_eq (folded a) (folded b)

-- the type beside a word, whose letters may be small or capital
abbrev pub type_beside : List (List ℕ × FieldType) → List ℕ → Option FieldType
type_beside [] word = None
type_beside (row ∷ rows) word = if is_alike row.0 word then Some row.1 else type_beside rows word
