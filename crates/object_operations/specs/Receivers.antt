-- Methods by what they are called on: E7 on `invalid`, and E4 on another kind of value.
use Rattle.std.specs.Prelude.{ℕ, List, [], ◌∷◌, Option, Some, None, slice_get}
use Rattle.chan_values.specs.declared.error_code.ErrorCode.{ErrorCode}
use Rattle.chan_values.specs.declared.error_code.ErrorCode.TheVariants.{E4, E6, E7}
use Rattle.chan_values.specs.declared.message.Message as m
use Rattle.heap_meaning.specs.declared.plain.Plain as p
use Rattle.heap_meaning.specs.declared.plain.Plain.TheVariants.{Invalid}
use Rattle.heap_meaning.specs.Values.{StoreValue, Scalar, Words, Reference, Entry}
use Rattle.heap_meaning.specs.Store.{Object, ArrayObject, MapObject, MessageObject, Store}
use Rattle.heap_meaning.specs.Cells.{Content, Array, Pairs, Message}
use Rattle.object_operations.specs.Answer.{Answer, Raises}
use Rattle.object_operations.specs.declared.receiver.Receiver.{Receiver}
use Rattle.object_operations.specs.declared.receiver.Receiver.TheVariants as r

-- what is no member of a plain value: E7 on `invalid`
abbrev pub no_member : p.Plain → ErrorCode → Answer
no_member Invalid other = Raises E7
no_member _ other = Raises other

-- what a method of arrays gives for array n with its items, further arguments and a store
abbrev pub ArrayRow : Type 0
ArrayRow = ℕ → List StoreValue → List StoreValue → Store → Answer

abbrev pub on_array_object : ArrayRow → ℕ → Option Object → List StoreValue → Store → Answer
on_array_object method n (Some (ArrayObject items)) arguments store = method n items arguments store
on_array_object method n _ arguments store = Raises E4

-- a call of a method of arrays, whose first argument is what it is called on
abbrev pub on_array : ArrayRow → List StoreValue → Store → Answer
on_array method [] store = Raises E6
on_array method (Scalar plain ∷ arguments) store = no_member plain E4
on_array method (Words bytes ∷ arguments) store = Raises E4
on_array method (Reference n ∷ arguments) store = on_array_object method n (slice_get store n) arguments store

-- what a method of associative arrays gives for associative array n with its entries
abbrev pub MapRow : Type 0
MapRow = ℕ → List (Entry StoreValue) → List StoreValue → Store → Answer

abbrev pub on_map_object : MapRow → ℕ → Option Object → List StoreValue → Store → Answer
on_map_object method n (Some (MapObject entries)) arguments store = method n entries arguments store
on_map_object method n _ arguments store = Raises E4

-- a call of a method of associative arrays
abbrev pub on_map : MapRow → List StoreValue → Store → Answer
on_map method [] store = Raises E6
on_map method (Scalar plain ∷ arguments) store = no_member plain E4
on_map method (Words bytes ∷ arguments) store = Raises E4
on_map method (Reference n ∷ arguments) store = on_map_object method n (slice_get store n) arguments store

-- what a method of messages gives for a message
abbrev pub MessageRow : Type 0
MessageRow = m.Message → List StoreValue → Store → Answer

abbrev pub on_message_object : MessageRow → Option Object → List StoreValue → Store → Answer
on_message_object method (Some (MessageObject message)) arguments store = method message arguments store
on_message_object method _ arguments store = Raises E4

-- a call of a method of messages
abbrev pub on_message : MessageRow → List StoreValue → Store → Answer
on_message method [] store = Raises E6
on_message method (Scalar plain ∷ arguments) store = no_member plain E4
on_message method (Words bytes ∷ arguments) store = Raises E4
on_message method (Reference n ∷ arguments) store = on_message_object method (slice_get store n) arguments store

abbrev pub receiver_of_plain : p.Plain → Receiver
receiver_of_plain Invalid = r.Invalid
receiver_of_plain _ = r.Other

abbrev pub receiver_of_content : Option Content → Receiver
receiver_of_content (Some (Array items)) = r.Array
receiver_of_content (Some (Pairs entries)) = r.Pairs
receiver_of_content (Some (Message message)) = r.Message
receiver_of_content _ = r.Other

-- what a value of the heap is, as its methods and members go
abbrev pub receiver_in : Option p.Plain → Option Content → Receiver
receiver_in (Some plain) content = receiver_of_plain plain
receiver_in None content = receiver_of_content content

-- the error of what isn't the kind that is wanted
abbrev pub refusal_of : Receiver → ErrorCode → ErrorCode
refusal_of r.Invalid other = E7
refusal_of _ other = other
