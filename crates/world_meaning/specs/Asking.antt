-- What actors other than 0 ask for: at their own nodes it is done at once, and else posted. Ports are everyone's.
use Rattle.std.specs.Prelude.{ℕ, ◌+◌, Bool, true, false, ◌&&◌, ◌||◌, List, [], ◌∷◌, ◌++◌, length, Option, Some, None, nat_lt, codes}
use Rattle.chan_values.specs.declared.error_code.ErrorCode.TheVariants.{E11}
use Rattle.chan_values.specs.declared.message.Message.{Message}
use Rattle.chan_values.specs.Folded.{folded}
use Rattle.chan_values.specs.Tree.{NodeNumber, PortNumber, Tree, Leaf}
use Rattle.field_types.specs.Words.{is_alike}
use Rattle.node_tree.specs.declared.node.Node.{Node}
use Rattle.node_tree.specs.Nodes.{owner_of}
use Rattle.node_tree.specs.Family.{is}
use Rattle.node_tree.specs.declared.answers.SetResult.{SetResult}
use Rattle.node_tree.specs.declared.answers.SetResult.TheVariants.{NoField, NoFit, Same, Changed}
use Rattle.node_tree.specs.Fields.{after_set}
use Rattle.message_ports.specs.Messages.{messages_of, with_messages}
use Rattle.brs_grammar.specs.Form.{Text}
use Rattle.brs_meaning.specs.Request.{Access, Make, Get, Set, Has, Add, Append, Insert, Remove, Create, Child, Count, Parent, Find, Subtype, Request, Asks, MakePort, Wait, Poll}
use Rattle.brs_meaning.specs.Answering.{Value, Told}
use Rattle.world_meaning.specs.Channel.{Channel, kind_named}
use Rattle.world_meaning.specs.Labels.{Changes, Answers}
use Rattle.world_meaning.specs.Core.{AccessEntry, Core, Moved, moved, followed, actor_at, posts_of}
use Rattle.world_meaning.specs.Ending.{hand, fail_asking, post_entry}
use Rattle.world_meaning.specs.Agendas.{invalid}
use Rattle.world_meaning.specs.Effect.{Result, Gives, Raises, Effect, gives, tells, raises}
use Rattle.world_meaning.specs.Changing.{value_at, set_of}
use Rattle.world_meaning.specs.Making.{below}
use Rattle.world_meaning.specs.Accesses.{quiet}
use Rattle.world_meaning.specs.NodesMade.{nodes_made}

-- ---- ports

-- the most ports of a run
abbrev pub most_ports : ℕ
most_ports = 65536

abbrev pub make_port : (room : Bool) → ℕ → Core → Moved
make_port true a c = moved (hand a (Value (Leaf (PortNumber (length c.ports + 1)))) (record c { ports = c.ports ++ [] ∷ [] })) []
make_port false a c = fail_asking a E11 c

-- the first message of a port, or `invalid` where it has none
abbrev pub take_message : List Message → (port : ℕ) → ℕ → Core → Moved
take_message [] port a c = moved (hand a (Value invalid) c) []
take_message (m ∷ rest) port a c = moved (hand a (Told m) (record c { ports = with_messages c.ports port rest })) []

-- ---- local accesses

-- another actor than 0 makes nodes of two kinds itself
abbrev pub is_own_kind : Text → Bool
is_own_kind name = is_alike name (codes "node") || is_alike name (codes "contentnode")

-- whether an actor does an access itself: its receiver and each child that is an argument are its own nodes
abbrev pub is_local : ℕ → Access → List Node → Bool
is_local a (Make kind) nodes = is_own_kind kind
is_local a (Create n kind) nodes = is a (owner_of nodes n) && is_own_kind kind
is_local a (Append n child) nodes = is a (owner_of nodes n) && is a (owner_of nodes child)
is_local a (Insert n child at) nodes = is a (owner_of nodes n) && is a (owner_of nodes child)
is_local a (Remove n child) nodes = is a (owner_of nodes n) && is a (owner_of nodes child)
is_local a (Get n f) nodes = is a (owner_of nodes n)
is_local a (Set n f v) nodes = is a (owner_of nodes n)
is_local a (Has n f) nodes = is a (owner_of nodes n)
is_local a (Add n f kind always) nodes = is a (owner_of nodes n)
is_local a (Child n at) nodes = is a (owner_of nodes n)
is_local a (Count n) nodes = is a (owner_of nodes n)
is_local a (Parent n) nodes = is a (owner_of nodes n)
is_local a (Find n id) nodes = is a (owner_of nodes n)
is_local a (Subtype n) nodes = is a (owner_of nodes n)
is_local a access nodes = false

-- nobody observes a node that isn't render's, so a change of it has no deliveries
abbrev pub set_own_by : SetResult → (node : ℕ) → Text → Tree → Core → Effect
set_own_by NoField n f v c = tells false c
set_own_by NoFit n f v c = tells false c
set_own_by Same n f v c = tells true c
set_own_by Changed n f v c =
    let nodes = after_set c.nodes n f v in
    record (tells true c) { after = moved (record c { nodes = nodes }) (Changes n (folded f) (value_at nodes n f) [] ∷ Answers ∷ []) }

-- a node of its own, of a kind without component
abbrev pub made_own : (node : ℕ) → (parent : Option ℕ) → Option (List Node) → Core → Effect
made_own n parent None c = raises E11 c
made_own n parent (Some nodes) c = record (gives (Leaf (NodeNumber n)) c) { after = moved (record c { nodes = below parent nodes n }) [] }

abbrev pub make_own : Channel → ℕ → (kind : Option ℕ) → (parent : Option ℕ) → Core → Effect
make_own ch a None parent c = gives invalid c
make_own ch a (Some kind) parent c = made_own (length c.nodes + 1) parent (nodes_made ch.plans c.nodes kind a) c

abbrev pub own_effect : Channel → ℕ → Access → Core → Effect
own_effect ch a (Make kind) c = make_own ch a (kind_named ch kind) None c
own_effect ch a (Create n kind) c = make_own ch a (kind_named ch kind) (Some n) c
own_effect ch a (Set n f v) c = set_own_by (set_of c n f v) n f v c
own_effect ch a access c = quiet access c

-- The answer comes in the same step, and so does an error. No access at an own node has jobs or calls.
abbrev pub answer_own : ℕ → Result → Core → Moved
answer_own a (Gives v) c = moved (hand a (Value v) c) []
answer_own a (Raises e) c = fail_asking a e c
answer_own a _ c = moved c []

abbrev pub access_own : Channel → ℕ → Access → Core → Moved
access_own ch a access c = let e = own_effect ch a access c in followed e.after (answer_own a e.result)

-- ---- posted accesses

-- the access comes to the end of the inbox, and the actor waits
abbrev pub post : ℕ → Access → Core → Moved
post a access c = let number = posts_of (actor_at c a) + 1 in post_entry a number (AccessEntry a number access) c

abbrev pub access_by : (local : Bool) → Channel → ℕ → Access → Core → Moved
access_by true ch a access c = access_own ch a access c
access_by false ch a access c = post a access c

-- ---- what an actor asks for

-- a wait is made only where the port has a message
abbrev pub ask_port : ℕ → Request → Core → Moved
ask_port a MakePort c = make_port (nat_lt (length c.ports) most_ports) a c
ask_port a (Wait port limited) c = take_message (messages_of c.ports port) port a c
ask_port a (Poll port) c = take_message (messages_of c.ports port) port a c
-- an access asks for no port
ask_port a (Asks access) c = moved c []

-- another actor than 0
abbrev pub ask : Channel → ℕ → Request → Core → Moved
ask ch a (Asks access) c = access_by (is_local a access c.nodes) ch a access c
ask ch a request c = ask_port a request c
