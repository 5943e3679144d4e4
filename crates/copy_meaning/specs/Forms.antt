-- What each value is when it leaves its actor, in a store and in a heap.
use Rattle.std.specs.Prelude.{Option, Some, None, slice_get}
use Rattle.chan_values.specs.Tree as t
use Rattle.chan_values.specs.Tree.{Array, Keyed}
use Rattle.heap_meaning.specs.declared.plain.Plain.{Plain}
use Rattle.heap_meaning.specs.declared.plain.Plain.TheVariants.{Invalid, Truth, Small, Big, Function, Node, Port, Screen}
use Rattle.heap_meaning.specs.Values.{Value, Direct, Cell, StoreValue, Scalar, Words, Reference}
use Rattle.heap_meaning.specs.Keys.{keys_of, values_of}
use Rattle.heap_meaning.specs.Store.{Object, ArrayObject, MapObject, MessageObject, Store}
use Rattle.heap_meaning.specs.Cells as c
use Rattle.heap_meaning.specs.Heap.{Heap, content_at}
use Rattle.copy_meaning.specs.Unfolding.{Form, Single, Holds}

-- a function and the screen are invalid outside; a node and a port are known by their numbers everywhere
abbrev pub leaving : Plain → t.Plain
leaving Invalid = t.Invalid
leaving (Truth b) = t.Boolean b
leaving (Small n) = t.Integer n
leaving (Big n) = t.LongInteger n
leaving (Function n) = t.Invalid
leaving (Node n) = t.NodeNumber n
leaving (Port n) = t.PortNumber n
leaving Screen = t.Invalid

-- a message is invalid outside; no object stands past the end of a store
abbrev pub form_of_object : Option Object → Form StoreValue
form_of_object (Some (ArrayObject items)) = Holds Array items
form_of_object (Some (MapObject entries)) = Holds (Keyed (keys_of entries)) (values_of entries)
form_of_object (Some (MessageObject message)) = Single t.Invalid
form_of_object None = Single t.Invalid

-- what a value of a store is
abbrev pub form_in : Store → StoreValue → Form StoreValue
form_in store (Scalar plain) = Single (leaving plain)
form_in store (Words bytes) = Single (t.Words bytes)
form_in store (Reference n) = form_of_object (slice_get store n)

abbrev pub form_of_content : Option c.Content → Form Value
form_of_content (Some (c.Text bytes)) = Single (t.Words bytes)
form_of_content (Some (c.Array items)) = Holds Array items
form_of_content (Some (c.Pairs entries)) = Holds (Keyed (keys_of entries)) (values_of entries)
form_of_content (Some (c.Message message)) = Single t.Invalid
form_of_content None = Single t.Invalid

-- what a value of a heap is
abbrev pub form_at : Heap → Value → Form Value
form_at h (Direct plain) = Single (leaving plain)
form_at h (Cell place) = form_of_content (content_at h (Cell place))
