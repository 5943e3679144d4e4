-- What the call of a member calls, by the value and the name.
use Rattle.std.specs.Prelude.{ℕ, List, Option, Some, None}
use Rattle.chan_values.specs.declared.error_code.ErrorCode.{ErrorCode}
use Rattle.chan_values.specs.declared.error_code.ErrorCode.TheVariants.{E4, E5, E7}
use Rattle.heap_meaning.specs.declared.plain.Plain.{Plain}
use Rattle.heap_meaning.specs.declared.plain.Plain.TheVariants as p
use Rattle.heap_meaning.specs.Values.{Value}
use Rattle.heap_meaning.specs.Cells.{Content}
use Rattle.heap_meaning.specs.Heap.{Heap, content_at}
use Rattle.heap_meaning.specs.Reading.{plain_of, value_in}
use Rattle.object_operations.specs.Receivers.{receiver_of_content}
use Rattle.object_operations.specs.declared.receiver.Receiver.{Receiver}
use Rattle.object_operations.specs.declared.receiver.Receiver.TheVariants as r
use Rattle.brs_builtins.specs.declared.operation.Operation.{Operation}
use Rattle.brs_builtins.specs.Names.{method_named}
use Rattle.call_decisions.specs.declared.member_call.MemberCall.{MemberCall}
use Rattle.call_decisions.specs.declared.member_call.MemberCall.TheVariants.{Function, Method, Node, Port, Screen, Refused}

-- a built-in method, or this error without one
abbrev pub method_or : ErrorCode → Option Operation → MemberCall
method_or error (Some operation) = Method operation
method_or error None = Refused error

-- what stands at the key, where it is a plain value: a function before a method of the name
abbrev pub held_called : Option Plain → Option Operation → MemberCall
held_called (Some (p.Function n)) method = Function n
held_called _ method = method_or E5 method

-- by the value at the key of an associative array
abbrev pub key_called : Option Value → (name : List ℕ) → MemberCall
key_called (Some v) name = held_called (plain_of v) (method_named r.Pairs name)
key_called None name = method_or E4 (method_named r.Pairs name)

abbrev pub plain_called : Plain → (name : List ℕ) → MemberCall
plain_called p.Invalid name = Refused E7
plain_called (p.Node n) name = Node n
plain_called (p.Port n) name = Port n
plain_called p.Screen name = Screen
plain_called _ name = method_or E4 (method_named r.Other name)

-- by what a value with a cell is, and what it has at the key
abbrev pub cell_called : Receiver → Option Value → (name : List ℕ) → MemberCall
cell_called r.Pairs at_key name = key_called at_key name
cell_called receiver at_key name = method_or E4 (method_named receiver name)

abbrev pub member_called_in : Option Plain → Option Content → (name : List ℕ) → MemberCall
member_called_in (Some plain) content name = plain_called plain name
member_called_in None content name = cell_called (receiver_of_content content) (value_in content name) name

-- what a call of the member of this name of a value of the heap calls
abbrev pub member_called : Heap → Value → (name : List ℕ) → MemberCall
member_called heap v name = member_called_in (plain_of v) (content_at heap v) name
