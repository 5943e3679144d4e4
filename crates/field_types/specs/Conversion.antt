-- What a field holds after a write, where the value fits its type.
use Rattle.std.specs.Prelude.{ℤ, pos, negsuc, int_le, Bool, ◌&&◌, Option, Some, None, if◌then◌else◌}
use Rattle.std.specs.Option.{option_map}
use Rattle.chan_values.specs.Tree.{Plain, Invalid, Boolean, Integer, LongInteger, Words, NodeNumber, PortNumber, Kind, Array, Keyed, Tree, Leaf, Branch, Trees, none, more}
use Rattle.field_types.specs.declared.types.FieldType.{FieldType}
use Rattle.field_types.specs.declared.types.FieldType.TheVariants as t

-- whether a number is in the range of an Integer
abbrev pub is_integer : ℤ → Bool
is_integer n = int_le (negsuc 2147483647) n && int_le n (pos 2147483647)

-- an Integer field takes a LongInteger in its range, and a LongInteger field takes an Integer
abbrev pub converted_plain : FieldType → Plain → Option Plain
converted_plain t.Integer (Integer n) = Some (Integer n)
converted_plain t.Integer (LongInteger n) = if is_integer n then Some (Integer n) else None
converted_plain t.LongInteger (Integer n) = Some (LongInteger n)
converted_plain t.LongInteger (LongInteger n) = Some (LongInteger n)
converted_plain t.Boolean (Boolean b) = Some (Boolean b)
converted_plain t.String (Words bytes) = Some (Words bytes)
converted_plain t.Node (NodeNumber n) = Some (NodeNumber n)
converted_plain t.Node Invalid = Some Invalid
converted_plain _ _ = None

-- at the types without items
abbrev pub converted_item : FieldType → Tree → Option Tree
converted_item t (Leaf p) = option_map Leaf (converted_plain t p)
converted_item t (Branch k ts) = None

abbrev pub both : Option Tree → Option Trees → Option Trees
both (Some t) (Some ts) = Some (more t ts)
both _ _ = None

-- each item at a type without items
abbrev pub all_converted : FieldType → Trees → Option Trees
all_converted t none = Some none
all_converted t (more u us) = both (converted_item t u) (all_converted t us)

-- at the type of arrays of such items
abbrev pub converted_items : FieldType → Tree → Option Tree
converted_items t (Leaf Invalid) = Some (Leaf Invalid)
converted_items t (Branch Array ts) = option_map (Branch Array) (all_converted t ts)
converted_items t _ = None

abbrev pub if_array : Tree → Option Tree
if_array (Leaf Invalid) = Some (Leaf Invalid)
if_array (Branch Array ts) = Some (Branch Array ts)
if_array _ = None

abbrev pub if_pairs : Tree → Option Tree
if_pairs (Leaf Invalid) = Some (Leaf Invalid)
if_pairs (Branch (Keyed ks) ts) = Some (Branch (Keyed ks) ts)
if_pairs _ = None

-- None where the value does not fit
abbrev pub converted : FieldType → Tree → Option Tree
converted t.Integer u = converted_item t.Integer u
converted t.LongInteger u = converted_item t.LongInteger u
converted t.Boolean u = converted_item t.Boolean u
converted t.String u = converted_item t.String u
converted t.Node u = converted_item t.Node u
converted t.AssocArray u = if_pairs u
converted t.Array u = if_array u
converted t.StringArray u = converted_items t.String u
converted t.IntArray u = converted_items t.Integer u
converted t.BoolArray u = converted_items t.Boolean u
converted t.NodeArray u = converted_items t.Node u
