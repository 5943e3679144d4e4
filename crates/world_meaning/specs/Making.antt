-- Nodes that are made for render: their homes, their observers by `onChange`, and their `init` functions.
use Rattle.std.specs.Prelude.{ℕ, zero, suc, ◌+◌, ◌-◌, true, false, List, [], ◌∷◌, ◌++◌, length, map, flat_map, Option, Some, None, option_and_then, codes, if◌then◌else◌}
use Rattle.chan_values.specs.Folded.{folded}
use Rattle.chan_values.specs.declared.error_code.ErrorCode.TheVariants.{E11}
use Rattle.chan_values.specs.Tree.{NodeNumber, Leaf}
use Rattle.heap_meaning.specs.declared.plain.Plain.TheVariants.{Node as NodeValue}
use Rattle.heap_meaning.specs.Values.{Scalar, Reference, Entry}
use Rattle.heap_meaning.specs.Store.{Object, MapObject}
use Rattle.node_tree.specs.declared.node.Node.{Node}
use Rattle.node_tree.specs.Nodes.{children_of}
use Rattle.node_tree.specs.Family.{appended}
use Rattle.field_observers.specs.declared.target.Target.TheVariants as target
use Rattle.field_observers.specs.InTime.{Observer}
use Rattle.brs_grammar.specs.Form.{Text}
use Rattle.brs_meaning.specs.Answering.{Value}
use Rattle.world_meaning.specs.Channel.{Channel, Component, kind_named, extends, component_at, kind_of_node, inits_of, on_changes_of}
use Rattle.world_meaning.specs.Core.{Init, Inits, Actor, Core, moved, change_actor, home_of_node}
use Rattle.world_meaning.specs.Agendas.{invalid}
use Rattle.world_meaning.specs.Effect.{Jobs, Effect, gives, raises}
use Rattle.world_meaning.specs.NodesMade.{nodes_made}

-- ---- homes and observers

-- the `m` of a component node: the global node and the node itself
abbrev pub m_of : (node : ℕ) → Object
m_of n = MapObject (record { key = codes "global"; value = Scalar (NodeValue 1) } ∷ record { key = codes "top"; value = Scalar (NodeValue n) } ∷ [])

-- one more home, with this `m`
abbrev pub with_home : (scope : ℕ) → Object → Actor → Actor
with_home scope m x = record x { store = x.store ++ m ∷ []; homes = x.homes ++ record { scope = scope; m = Reference (length x.store) } ∷ [] }

-- an observer that came with the making of its node stays for good
abbrev pub fixed_observer : (node home : ℕ) → Entry Text → Observer
fixed_observer n home e = record { node = n; field = folded e.key; registration = record { target = target.Function home e.value; fixed = true } }

abbrev pub settle_in : Channel → (node kind : ℕ) → Option Component → Core → Core
settle_in ch n kind None c = c
settle_in ch n kind (Some component) c =
    record (change_actor 0 (with_home component.scope (m_of n)) c) {
      homes = c.homes ++ n ∷ [];
      observers = c.observers ++ map (fixed_observer n (length c.homes)) (on_changes_of ch kind);
    }

abbrev pub settle_kind : Channel → (node : ℕ) → (kind : Option ℕ) → Core → Core
settle_kind ch n None c = c
settle_kind ch n (Some kind) c = settle_in ch n kind (component_at ch kind) c

-- each new component node gets a home, and its registrations in the order of its fields
abbrev pub settle_each : Channel → (nodes : List ℕ) → Core → Core
settle_each ch [] c = c
settle_each ch (n ∷ ns) c = settle_each ch ns (settle_kind ch n (kind_of_node ch c.nodes n) c)

-- so many numbers from one on
abbrev pub numbers_from : ℕ → (count : ℕ) → List ℕ
numbers_from n zero = []
numbers_from n (suc count) = n ∷ numbers_from (n + 1) count

-- ---- `init` functions

-- a node and all below it, each behind its own children, so many levels deep at most
abbrev pub postorder : ℕ → List Node → ℕ → List ℕ
postorder zero nodes n = []
postorder (suc most) nodes n = flat_map (postorder most nodes) (children_of nodes n) ++ n ∷ []

abbrev pub init_at : (home : Option ℕ) → (function : ℕ) → List Init
init_at None f = []
init_at (Some home) f = record { function = f; home = home } ∷ []

abbrev pub inits_of_kind : Channel → (kind : Option ℕ) → (home : Option ℕ) → List Init
inits_of_kind ch None home = []
inits_of_kind ch (Some kind) home = flat_map (init_at home) (inits_of ch kind)

abbrev pub inits_of_node : Channel → Core → (node : ℕ) → List Init
inits_of_node ch c n = inits_of_kind ch (kind_of_node ch c.nodes n) (home_of_node c n)

-- those of child nodes first, in order, then the node's own
abbrev pub all_inits : Channel → Core → (node : ℕ) → List Init
all_inits ch c n = flat_map (inits_of_node ch c) (postorder (length c.nodes) c.nodes n)

-- ---- a making by actor 0, or by an entry

-- the `init` functions of a new node, and the answer behind them
abbrev pub begin_inits : Channel → (node : ℕ) → Core → Effect
begin_inits ch n c = record { after = moved (record c { agendas = Inits false (all_inits ch c n) (Value (Leaf (NodeNumber n))) ∷ c.agendas }) []; result = Jobs }

abbrev pub below : (parent : Option ℕ) → List Node → (node : ℕ) → List Node
below None nodes n = nodes
below (Some p) nodes n = appended nodes p n

-- the nodes after a making, of which the first has this number; or None where there would be too many
abbrev pub made_by : Channel → (node : ℕ) → (parent : Option ℕ) → Option (List Node) → Core → Effect
made_by ch n parent None c = raises E11 c
made_by ch n parent (Some nodes) c =
    begin_inits ch n (settle_each ch (numbers_from n (length nodes - length c.nodes)) (record c { nodes = below parent nodes n }))

-- a new node of a kind, which is the last child of the parent where there is one; no node where there is no such kind
abbrev pub make_kind : Channel → (kind : Option ℕ) → (parent : Option ℕ) → Core → Effect
make_kind ch None parent c = gives invalid c
make_kind ch (Some kind) parent c = made_by ch (length c.nodes + 1) parent (nodes_made ch.plans c.nodes kind 0) c

abbrev pub make : Channel → (name : Text) → (parent : Option ℕ) → Core → Effect
make ch name parent c = make_kind ch (kind_named ch name) parent c

-- a scene is of the kind Scene or of one that extends it
abbrev pub if_scene : Channel → (kind : Option ℕ) → Option ℕ
if_scene ch kind = option_and_then (λ k. if extends ch (codes "Scene") k then Some k else None) kind

abbrev pub make_scene : Channel → (name : Text) → Core → Effect
make_scene ch name c = make_kind ch (if_scene ch (kind_named ch name)) None c
