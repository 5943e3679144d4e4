-- What each access does, a row for each.
use Rattle.std.specs.Prelude.{ℕ, pos, Bool, true, false, List, [], ◌∷◌, ◌++◌, length, filter, is_some, Option, Some, None, unwrap_or, if◌then◌else◌}
use Rattle.chan_values.specs.Folded.{folded}
use Rattle.chan_values.specs.Tree.{Integer, Words, NodeNumber, Tree, Leaf, trees}
use Rattle.field_types.specs.declared.types.FieldType.{FieldType}
use Rattle.field_types.specs.Words.{type_words, type_beside}
use Rattle.field_types.specs.NamedNodes.{nodes_in, nodes_in_all}
use Rattle.node_tree.specs.Nodes.{kind_of, parent_of, children_of}
use Rattle.node_tree.specs.Fields.{has_field, after_add}
use Rattle.node_tree.specs.Family.{has, is, can_stand, appended, can_insert, inserted, is_child, removed, child_at}
use Rattle.node_tree.specs.Search.{found}
use Rattle.field_observers.specs.declared.target.Target.{Target}
use Rattle.field_observers.specs.declared.target.Target.TheVariants as target
use Rattle.field_observers.specs.InTime.{stays}
use Rattle.focus_keys.specs.Chain.{focus_chain, after_set}
use Rattle.brs_grammar.specs.Form.{Text}
use Rattle.brs_meaning.specs.Program.{scoped}
use Rattle.brs_meaning.specs.Reduction.{home_of}
use Rattle.brs_meaning.specs.Request.{Access, Make, Scene, Get, Set, Has, Add, ObserveBy, ObserveAt, Unobserve, Append, Insert, Remove, Create, Child, Count, Parent, Find, Focus, HasFocus, InChain, Subtype, CallFunc}
use Rattle.world_meaning.specs.Channel.{Channel, function_at, function_of_kind, has_interface, kind_of_node}
use Rattle.world_meaning.specs.Core.{Core, moved, actor_at, home_of_node, homes_of_actor}
use Rattle.world_meaning.specs.Agendas.{invalid}
use Rattle.world_meaning.specs.Effect.{Calls, Effect, gives, tells}
use Rattle.world_meaning.specs.Changing.{value_at}
use Rattle.world_meaning.specs.Control.{set_field}
use Rattle.world_meaning.specs.Making.{make, make_scene}

-- ---- accesses that nobody hears of, which an actor may also do at its own nodes

abbrev pub node_value : Option ℕ → Tree
node_value None = invalid
node_value (Some n) = Leaf (NodeNumber n)

-- a field is added where the word is that of a type and no field of the name is there
abbrev pub add_field : (node : ℕ) → Text → Option FieldType → (always : Bool) → Core → Effect
add_field n f None always c = tells false c
add_field n f (Some t) always c = record (tells (if has_field c.nodes n f then false else true) c) { after = moved (record c { nodes = after_add c.nodes n f t always }) [] }

abbrev pub quiet : Access → Core → Effect
quiet (Get n f) c = gives (value_at c.nodes n f) c
quiet (Has n f) c = tells (has_field c.nodes n f) c
quiet (Add n f word always) c = add_field n f (type_beside type_words word) always c
quiet (Append n child) c = record (tells (can_stand c.nodes n child) c) { after = moved (record c { nodes = appended c.nodes n child }) [] }
quiet (Insert n child at) c = record (tells (can_insert c.nodes n child at) c) { after = moved (record c { nodes = inserted c.nodes n child at }) [] }
quiet (Remove n child) c = record (tells (is_child c.nodes n child) c) { after = moved (record c { nodes = removed c.nodes n child }) [] }
quiet (Child n at) c = gives (node_value (child_at c.nodes n at)) c
quiet (Count n) c = gives (Leaf (Integer (pos (length (children_of c.nodes n))))) c
quiet (Parent n) c = gives (node_value (parent_of c.nodes n)) c
quiet (Find n id) c = gives (node_value (found c.nodes n id)) c
quiet (Subtype n) c = gives (Leaf (Words (unwrap_or (kind_of c.nodes n) []))) c
-- the rows of the other accesses stand below
quiet _ c = gives invalid c

-- ---- observers

abbrev pub register : (node : ℕ) → Text → Target → Core → Effect
register n f to c =
    record (tells true c) { after = moved (record c { observers = c.observers ++ record { node = n; field = folded f; registration = record { target = to; fixed = false } } ∷ [] }) [] }

abbrev pub register_if : (can : Bool) → (node : ℕ) → Text → Target → Core → Effect
register_if true n f to c = register n f to c
register_if false n f to c = tells false c

-- a function is registered by actor 0 alone, where the scope of the home of the call has it
abbrev pub observe_by : Channel → (home : Option ℕ) → (node : ℕ) → Text → (function : Text) → Core → Effect
observe_by ch None n f name c = tells false c
observe_by ch (Some home) n f name c =
    register_if (if has_field c.nodes n f then is_some (scoped ch.program (home_of (homes_of_actor (actor_at c 0)) home).scope (folded name)) else false)
    n f (target.Function home name) c

abbrev pub unobserve : (there : Bool) → (node : ℕ) → Text → Core → Effect
unobserve true n f c = record (tells true c) { after = moved (record c { observers = filter (stays n (folded f)) c.observers }) [] }
unobserve false n f c = tells false c

-- ---- functions of an interface

abbrev pub call_interface : (there : Bool) → Channel → (kind : ℕ) → (home : Option ℕ) → (name : Text) → List Tree → Core → Effect
call_interface true ch kind (Some home) name arguments c = record { after = moved c []; result = Calls (function_at ch (function_of_kind ch kind name)) home arguments }
call_interface _ ch kind home name arguments c = gives invalid c

abbrev pub call_func : Channel → (kind : Option ℕ) → (home : Option ℕ) → (name : Text) → List Tree → Core → Effect
call_func ch None home name arguments c = gives invalid c
call_func ch (Some kind) home name arguments c = call_interface (has_interface ch kind name) ch kind home name arguments c

-- ---- all of them, by actor 0 or by an entry

-- the home is that of the call in actor 0 that asks; a posted access has none
abbrev pub effect : Channel → (home : Option ℕ) → Access → Core → Effect
effect ch home (Make kind) c = make ch kind None c
effect ch home (Scene kind) c = make_scene ch kind c
effect ch home (Create n kind) c = make ch kind (Some n) c
effect ch home (Set n f v) c = set_field ch n f v c
effect ch home (ObserveBy n f function) c = observe_by ch home n f function c
effect ch home (ObserveAt n f port) c = register_if (has_field c.nodes n f) n f (target.Port port) c
effect ch home (Unobserve n f) c = unobserve (has_field c.nodes n f) n f c
effect ch home (Focus n on) c = record (tells true c) { after = moved (record c { focus = after_set c.focus n on }) [] }
effect ch home (HasFocus n) c = tells (is n c.focus) c
effect ch home (InChain n) c = tells (has n (focus_chain c.nodes c.focus)) c
effect ch home (CallFunc n name arguments) c = call_func ch (kind_of_node ch c.nodes n) (home_of_node c n) name arguments c
effect ch home access c = quiet access c

-- ---- the nodes that an access names

-- its receiver and the nodes of its arguments
abbrev pub nodes_of : Access → List ℕ
nodes_of (Make kind) = []
nodes_of (Scene kind) = []
nodes_of (Get n f) = n ∷ []
nodes_of (Set n f v) = n ∷ nodes_in v
nodes_of (Has n f) = n ∷ []
nodes_of (Add n f kind always) = n ∷ []
nodes_of (ObserveBy n f function) = n ∷ []
nodes_of (ObserveAt n f port) = n ∷ []
nodes_of (Unobserve n f) = n ∷ []
nodes_of (Append n child) = n ∷ child ∷ []
nodes_of (Insert n child at) = n ∷ child ∷ []
nodes_of (Remove n child) = n ∷ child ∷ []
nodes_of (Create n kind) = n ∷ []
nodes_of (Child n at) = n ∷ []
nodes_of (Count n) = n ∷ []
nodes_of (Parent n) = n ∷ []
nodes_of (Find n id) = n ∷ []
nodes_of (Focus n on) = n ∷ []
nodes_of (HasFocus n) = n ∷ []
nodes_of (InChain n) = n ∷ []
nodes_of (Subtype n) = n ∷ []
nodes_of (CallFunc n name arguments) = n ∷ nodes_in_all (trees arguments)
