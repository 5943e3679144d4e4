-- What an instruction that calls does, by what is called.
use Rattle.std.specs.Prelude.{ℕ, List, [], ◌∷◌, Option, Some, None, slice_get}
use Rattle.chan_values.specs.declared.error_code.ErrorCode.TheVariants.{E2, E5, E7}
use Rattle.heap_meaning.specs.declared.plain.Plain.TheVariants.{Invalid, Function, Node, Port, Screen}
use Rattle.heap_meaning.specs.Values.{StoreValue, Scalar, Reference}
use Rattle.heap_meaning.specs.Keys.{value_at_key}
use Rattle.heap_meaning.specs.Store.{Object, MapObject, Store}
use Rattle.brs_grammar.specs.Form.{Text}
use Rattle.brs_meaning.specs.MethodNames.{node_method_named}
use Rattle.brs_meaning.specs.Methods.{method_call}
use Rattle.brs_meaning.specs.WorldCalls.{port_call, screen_call}
use Rattle.brs_meaning.specs.Calls.{built_in_call, node_called}
use Rattle.machine_meaning.specs.Image.{function_at, built_in_at}
use Rattle.machine_meaning.specs.Acted.{Acted, Calls, Faults}
use Rattle.machine_meaning.specs.Setting.{Setting, gives}

-- a function of the source, or a built-in one, by its number
abbrev pub called : Setting → (function : ℕ) → (m : Option StoreValue) → (arguments : List StoreValue) → Store → Acted
called s n m arguments store = elim (function_at s.image n) [
  | Some f ↦ Calls f m arguments
  | None ↦ elim (built_in_at s.image n) [ Some name ↦ gives s (built_in_call s.actor name arguments store) | None ↦ Faults E5 ]
]

abbrev pub call : Setting → (value : StoreValue) → (arguments : List StoreValue) → Store → Acted
call s (Scalar (Function n)) arguments store = called s n None arguments store
call s value arguments store = Faults E5

-- the value at the key of an associative array: a function is called with the associative array as `m`
abbrev pub key_called : Setting → (x : StoreValue) → Option StoreValue → Text → (arguments : List StoreValue) → Store → Acted
key_called s x (Some (Scalar (Function n))) k arguments store = called s n (Some x) arguments store
key_called s x held k arguments store = gives s (method_call x held k arguments store)

abbrev pub object_called : Setting → (x : StoreValue) → Option Object → Text → (arguments : List StoreValue) → Store → Acted
object_called s x (Some (MapObject entries)) k arguments store = key_called s x (value_at_key entries k) k arguments store
object_called s x object k arguments store = gives s (method_call x None k arguments store)

-- `x.k(a, ..)`
abbrev pub member_call : Setting → (x : StoreValue) → Text → (arguments : List StoreValue) → Store → Acted
member_call s (Scalar Invalid) k arguments store = Faults E7
member_call s (Scalar (Node n)) k arguments store = gives s (node_called (node_method_named k) n arguments store)
member_call s (Scalar (Port p)) k arguments store = gives s (port_call k p arguments)
member_call s (Scalar Screen) k arguments store = gives s (screen_call k arguments store)
member_call s (Reference n) k arguments store = object_called s (Reference n) (slice_get store n) k arguments store
member_call s x k arguments store = gives s (method_call x None k arguments store)

abbrev pub called_with : Setting → List StoreValue → Store → Acted
called_with s (f ∷ arguments) store = call s f arguments store
called_with s [] store = Faults E2

abbrev pub member_called_with : Setting → Text → List StoreValue → Store → Acted
member_called_with s k (x ∷ arguments) store = member_call s x k arguments store
member_called_with s k [] store = Faults E2
