-- The value of a field before anything is set.
use Rattle.std.specs.Prelude.{[], false, pos}
use Rattle.chan_values.specs.Tree.{Tree, Leaf, Invalid, Boolean, Integer, LongInteger, Words, array_of}
use Rattle.field_types.specs.declared.types.FieldType.{FieldType}
use Rattle.field_types.specs.declared.types.FieldType.TheVariants as t

abbrev pub opening_of : FieldType → Tree
opening_of t.Integer = Leaf (Integer (pos 0))
opening_of t.LongInteger = Leaf (LongInteger (pos 0))
opening_of t.Boolean = Leaf (Boolean false)
opening_of t.String = Leaf (Words [])
opening_of t.Node = Leaf Invalid
opening_of t.AssocArray = Leaf Invalid
opening_of t.Array = array_of []
opening_of t.StringArray = array_of []
opening_of t.IntArray = array_of []
opening_of t.BoolArray = array_of []
opening_of t.NodeArray = array_of []
