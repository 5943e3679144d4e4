-- The methods of messages.
use Rattle.std.specs.Prelude.{List, []}
use Rattle.chan_values.specs.declared.error_code.ErrorCode.TheVariants.{E6}
use Rattle.chan_values.specs.declared.message.Message as m
use Rattle.heap_meaning.specs.declared.plain.Plain.TheVariants as p
use Rattle.heap_meaning.specs.Values.{StoreValue, Scalar, Words}
use Rattle.heap_meaning.specs.Store.{Store}
use Rattle.object_operations.specs.Answer.{Answer, Gives, Raises}
use Rattle.object_operations.specs.Receivers.{on_message}
use Rattle.object_operations.specs.declared.message_method.MessageMethod.{MessageMethod}
use Rattle.object_operations.specs.declared.message_method.MessageMethod.TheVariants.{Field, Id, Node}

-- the folded id of the field, the node's id at the change, the node
abbrev pub told : MessageMethod → m.Message → StoreValue
told Field message = Words message.field
told Id message = Words message.id
told Node message = Scalar (p.Node message.node)

abbrev pub method_of_message : MessageMethod → m.Message → List StoreValue → Store → Answer
method_of_message method message [] store = Gives (told method message) store
method_of_message method message _ store = Raises E6

-- a call of a method of messages
abbrev pub message_row : MessageMethod → List StoreValue → Store → Answer
message_row method = on_message (method_of_message method)
