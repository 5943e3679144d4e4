-- What the call of a member does, by what it calls.
use Rattle.std.specs.Prelude.{◌≡◌, List, [], ◌∷◌, Some}
use Rattle.heap_meaning.specs.Values.{Value, StoreValue}
use Rattle.heap_meaning.specs.Store.{Store}
use Rattle.heap_meaning.specs.Stands.{Naming, Outside, meaning, Stands}
use Rattle.heap_meaning.specs.Heap.{Heap}
use Rattle.object_operations.specs.Applies.{AreOut}
use Rattle.brs_builtins.specs.Table.{applied}
use Rattle.brs_grammar.specs.Form.{Text}
use Rattle.brs_meaning.specs.Given.{answered}
use Rattle.brs_meaning.specs.MethodNames.{node_method_named}
use Rattle.brs_meaning.specs.Calls.{node_called}
use Rattle.brs_meaning.specs.WorldCalls.{port_call, screen_call}
use Rattle.machine_meaning.specs.Acted.{Acted, Faults}
use Rattle.machine_meaning.specs.Setting.{Setting, gives}
use Rattle.machine_meaning.specs.Calls.{called, member_call}
use Rattle.call_decisions.specs.declared.member_call.MemberCall.{MemberCall}
use Rattle.call_decisions.specs.declared.member_call.MemberCall.TheVariants as c

-- a call of what is called, on this value
abbrev pub member_acts : MemberCall → Setting → (x : StoreValue) → Text → (arguments : List StoreValue) → Store → Acted
member_acts (c.Function n) s x k arguments store = called s n (Some x) arguments store
member_acts (c.Method operation) s x k arguments store = gives s (answered (applied operation (x ∷ arguments) store))
member_acts (c.Node n) s x k arguments store = gives s (node_called (node_method_named k) n arguments store)
member_acts (c.Port n) s x k arguments store = gives s (port_call k n arguments)
member_acts c.Screen s x k arguments store = gives s (screen_call k arguments store)
member_acts (c.Refused error) s x k arguments store = Faults error

-- whatever the store that the heap stands for, a call of the member does what a call of this does
abbrev pub IsMemberRow : Heap → Value → Text → MemberCall → Type 0
IsMemberRow heap v k decided =
    (name : Naming) (store : Store) (before : Outside) → Stands name heap.cells store before → AreOut (v ∷ []) before
    → (s : Setting) (arguments : List StoreValue) → member_call s (meaning name v) k arguments store ≡ member_acts decided s (meaning name v) k arguments store
