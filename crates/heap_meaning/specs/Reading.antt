-- What the content of a value's cell lets be read.
use Rattle.std.specs.Prelude.{◌≡◌, ℕ, ◌≤◌, ◌^◌, List, [], length, Option, Some, None, slice_get}
use Rattle.chan_values.specs.declared.message.Message as m
use Rattle.heap_meaning.specs.declared.plain.Plain as p
use Rattle.heap_meaning.specs.declared.shape.Shape as k
use Rattle.heap_meaning.specs.declared.shape.Shape.TheVariants as s
use Rattle.heap_meaning.specs.Values.{Value, Direct, Cell, Entry}
use Rattle.heap_meaning.specs.Keys.{keys_of, values_of, value_at_key}
use Rattle.heap_meaning.specs.Cells.{Content, Text, Array, Pairs, Message}

-- the plain value that it is
abbrev pub plain_of : Value → Option p.Plain
plain_of (Direct plain) = Some plain
plain_of (Cell place) = None

-- the place of its cell
abbrev pub place_of : Value → Option ℕ
place_of (Direct plain) = None
place_of (Cell place) = Some place

abbrev pub shape_in : Option Content → k.Shape
shape_in (Some (Text bytes)) = s.Words
shape_in (Some (Array items)) = s.Array
shape_in (Some (Pairs entries)) = s.Pairs
shape_in (Some (Message message)) = s.Message
shape_in None = s.Plain

abbrev pub text_in : Option Content → Option (List ℕ)
text_in (Some (Text bytes)) = Some bytes
text_in _ = None

abbrev pub message_in : Option Content → Option m.Message
message_in (Some (Message message)) = Some message
message_in _ = None

-- the item of an array
abbrev pub item_in : Option Content → ℕ → Option Value
item_in (Some (Array items)) i = slice_get items i
item_in _ i = None

-- the value of an associative array at a key
abbrev pub value_in : Option Content → List ℕ → Option Value
value_in (Some (Pairs entries)) key = value_at_key entries key
value_in _ key = None

-- the entries of an associative array
abbrev pub entries_in : Option Content → Option (List (Entry Value))
entries_in (Some (Pairs entries)) = Some entries
entries_in _ = None

-- the keys of an associative array
abbrev pub keys_in : Option Content → List (List ℕ)
keys_in (Some (Pairs entries)) = keys_of entries
keys_in _ = []

-- the items of an array, or the values of an associative array in the order of their keys
abbrev pub children_in : Option Content → List Value
children_in (Some (Array items)) = items
children_in (Some (Pairs entries)) = values_of entries
children_in _ = []

abbrev pub length_in : Option Content → ℕ
length_in (Some (Array items)) = length items
length_in (Some (Pairs entries)) = length entries
length_in _ = 0

abbrev pub HoldsArray : Option Content → Type 0
HoldsArray (Some (Array items)) = Unit {0}
HoldsArray _ = ⊥

abbrev pub HoldsPairs : Option Content → Type 0
HoldsPairs (Some (Pairs entries)) = Unit {0}
HoldsPairs _ = ⊥

-- an array or an associative array
abbrev pub HoldsItems : Option Content → Type 0
HoldsItems (Some (Array items)) = Unit {0}
HoldsItems (Some (Pairs entries)) = Unit {0}
HoldsItems _ = ⊥

-- the key is new, and there is no room for one more
pub record IsFull (content : Option Content) (key : List ℕ) : Type 0 where
  pub new : value_in content key ≡ None
  pub long : 2 ^ 20 ≤ length_in content
