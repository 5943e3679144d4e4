-- A call of a built-in method of a value that is no node, port or screen.
use Rattle.std.specs.Prelude.{List, [], ◌∷◌, length, Option, Some, None, slice_get, cond, codes}
use Rattle.std.specs.Str.{bytes_eq}
use Rattle.chan_values.specs.View.{tree_of}
use Rattle.chan_values.specs.declared.message.Message.{Message}
use Rattle.chan_values.specs.declared.error_code.ErrorCode.TheVariants.{E4, E5, E6}
use Rattle.heap_meaning.specs.Values.{StoreValue, Reference}
use Rattle.heap_meaning.specs.Store.{Object, ArrayObject, MapObject, MessageObject, Store}
use Rattle.copy_meaning.specs.Laying.{with_tree, value_of_tree}
use Rattle.plain_operations.specs.Methods.{method_row}
use Rattle.plain_operations.specs.Names as n
use Rattle.plain_operations.specs.declared.method.PlainMethod.{PlainMethod}
use Rattle.object_operations.specs.Arrays.{array_row}
use Rattle.object_operations.specs.Maps.{map_row, append_keys_row, keys_row}
use Rattle.object_operations.specs.Receivers.{on_map}
use Rattle.object_operations.specs.Messages.{message_row}
use Rattle.object_operations.specs.declared.array_method.ArrayMethod.{ArrayMethod}
use Rattle.object_operations.specs.declared.map_method.MapMethod.{MapMethod}
use Rattle.object_operations.specs.declared.message_method.MessageMethod.{MessageMethod}
use Rattle.brs_grammar.specs.Form.{Text}
use Rattle.brs_meaning.specs.Given.{Given, Gives, Fails, answered}
use Rattle.brs_meaning.specs.MethodNames.{array_method_named, map_method_named, message_method_named}
use Rattle.brs_builtins.specs.Operands.{operand, answer_of}

abbrev pub array_called : Option ArrayMethod → (x : StoreValue) → (arguments : List StoreValue) → Store → Given
array_called (Some method) x arguments store = answered (array_row method (x ∷ arguments) store)
array_called None x arguments store = Fails E4

-- what stands at the key is no function
abbrev pub other_map_called : Option MapMethod → (x : StoreValue) → (at_key : Option StoreValue) → (arguments : List StoreValue) → Store → Given
other_map_called (Some method) x at_key arguments store = answered (map_row method (x ∷ arguments) store)
other_map_called None x (Some v) arguments store = Fails E5
other_map_called None x None arguments store = Fails E4

abbrev pub map_called : Text → (x : StoreValue) → (at_key : Option StoreValue) → (arguments : List StoreValue) → Store → Given
map_called k x at_key arguments store =
    cond (bytes_eq k (codes "append")) (answered (on_map append_keys_row (x ∷ arguments) store))
    (cond (bytes_eq k (codes "keys")) (answered (on_map keys_row (x ∷ arguments) store)) (other_map_called (map_method_named k) x at_key arguments store))

-- the payload of a message is laid down anew
abbrev pub data_of : Message → (arguments : List StoreValue) → Store → Given
data_of message [] store = Gives (value_of_tree store (tree_of message.payload)) (with_tree store (tree_of message.payload))
data_of message _ store = Fails E6

abbrev pub told : Option MessageMethod → (x : StoreValue) → (arguments : List StoreValue) → Store → Given
told (Some method) x arguments store = answered (message_row method (x ∷ arguments) store)
told None x arguments store = Fails E4

abbrev pub message_called : Message → (x : StoreValue) → Text → (arguments : List StoreValue) → Store → Given
message_called message x k arguments store = cond (bytes_eq k (codes "getdata")) (data_of message arguments store) (told (message_method_named k) x arguments store)

abbrev pub plain_called : Option PlainMethod → (x : StoreValue) → (arguments : List StoreValue) → Store → Given
plain_called (Some method) x arguments store = answered (answer_of (method_row method (operand x) (length arguments)) store)
plain_called None x arguments store = Fails E4

abbrev pub object_method_called : Option Object → (x : StoreValue) → (at_key : Option StoreValue) → Text → (arguments : List StoreValue) → Store → Given
object_method_called (Some (ArrayObject items)) x at_key k arguments store = array_called (array_method_named k) x arguments store
object_method_called (Some (MapObject entries)) x at_key k arguments store = map_called k x at_key arguments store
object_method_called (Some (MessageObject message)) x at_key k arguments store = message_called message x k arguments store
object_method_called None x at_key k arguments store = Fails E4

-- the second argument is what stands at that key where the value is an associative array
abbrev pub method_call : (x : StoreValue) → (at_key : Option StoreValue) → Text → (arguments : List StoreValue) → Store → Given
method_call (Reference n) at_key k arguments store = object_method_called (slice_get store n) (Reference n) at_key k arguments store
method_call x at_key k arguments store = plain_called (n.method_named k) x arguments store
