-- What a call gives, by what is called.
use Rattle.std.specs.Prelude.{ℕ, List, map, Option, Some, None, slice_get, cond}
use Rattle.std.specs.Str.{bytes_eq}
use lib.Chars.{codes}
use Rattle.chan_values.specs.declared.error_code.ErrorCode.TheVariants.{E4, E5, E7}
use Rattle.heap_meaning.specs.declared.plain.Plain.TheVariants.{Invalid, Function, Node, Port, Screen}
use Rattle.heap_meaning.specs.Values.{StoreValue, Scalar, Reference}
use Rattle.heap_meaning.specs.Keys.{value_at_key}
use Rattle.heap_meaning.specs.Store.{Object, MapObject, Store}
use Rattle.plain_operations.specs.Functions.{function_result}
use Rattle.plain_operations.specs.Names as n
use Rattle.plain_operations.specs.declared.function.PlainFunction.{PlainFunction}
use Rattle.brs_meaning.specs.declared.node_method.NodeMethod.{NodeMethod}
use Rattle.object_operations.specs.Types.{type_row}
use Rattle.brs_grammar.specs.Form.{Text}
use Rattle.brs_meaning.specs.Given.{Given, Calls, Fails, Setting, answered}
use Rattle.brs_builtins.specs.Operands.{operand, answer_of}
use Rattle.brs_meaning.specs.WorldCalls.{port_call, screen_call, create_object, wait}
use Rattle.brs_meaning.specs.NodeCalls.{node_call}
use Rattle.brs_meaning.specs.MethodNames.{node_method_named}
use Rattle.brs_meaning.specs.Methods.{method_call}

-- a built-in function, by its folded name
abbrev pub plain_call : Option PlainFunction → List StoreValue → Store → Given
plain_call (Some f) arguments store = answered (answer_of (function_result f (map operand arguments)) store)
plain_call None arguments store = Fails E5

abbrev pub built_in_call : (actor : ℕ) → Text → (arguments : List StoreValue) → Store → Given
built_in_call actor name arguments store =
    cond (bytes_eq name (codes "createobject")) (create_object actor arguments store)
    (cond (bytes_eq name (codes "wait")) (wait actor arguments)
    (cond (bytes_eq name (codes "type")) (answered (type_row arguments store)) (plain_call (n.function_named name) arguments store)))

-- a function of the source, or a built-in one, by its number
abbrev pub called : Setting → (function : ℕ) → (m : Option StoreValue) → (arguments : List StoreValue) → Store → Given
called s n m arguments store = elim (s.program.function n) [
  | Some f ↦ Calls f m arguments
  | None ↦ elim (s.program.built_in n) [ Some name ↦ built_in_call s.actor name arguments store | None ↦ Fails E5 ]
]

-- `e(a, ..)`: the `m` is that of the home
abbrev pub call : Setting → (value : StoreValue) → (arguments : List StoreValue) → Store → Given
call s (Scalar (Function n)) arguments store = called s n None arguments store
call s value arguments store = Fails E5

-- a method of a node, by its folded name
abbrev pub node_called : Option NodeMethod → ℕ → List StoreValue → Store → Given
node_called (Some method) n arguments store = node_call method n arguments store
node_called None n arguments store = Fails E4

-- the value at the key of an associative array: a function is called with the associative array as `m`
abbrev pub key_called : Setting → (x : StoreValue) → Option StoreValue → Text → (arguments : List StoreValue) → Store → Given
key_called s x (Some (Scalar (Function n))) k arguments store = called s n (Some x) arguments store
key_called s x held k arguments store = method_call x held k arguments store

abbrev pub object_called : Setting → (x : StoreValue) → Option Object → Text → (arguments : List StoreValue) → Store → Given
object_called s x (Some (MapObject entries)) k arguments store = key_called s x (value_at_key entries k) k arguments store
object_called s x object k arguments store = method_call x None k arguments store

-- `x.k(a, ..)`
abbrev pub member_call : Setting → (x : StoreValue) → Text → (arguments : List StoreValue) → Store → Given
member_call s (Scalar Invalid) k arguments store = Fails E7
member_call s (Scalar (Node n)) k arguments store = node_called (node_method_named k) n arguments store
member_call s (Scalar (Port p)) k arguments store = port_call k p arguments
member_call s (Scalar Screen) k arguments store = screen_call k arguments store
member_call s (Reference n) k arguments store = object_called s (Reference n) (slice_get store n) k arguments store
member_call s x k arguments store = method_call x None k arguments store
