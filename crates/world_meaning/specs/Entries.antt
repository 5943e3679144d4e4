-- Entries of the inbox: how they begin, and how they end.
use Rattle.std.specs.Prelude.{ℕ, zero, suc, Bool, true, false, List, [], ◌∷◌, filter, Option, Some, None, codes, if◌then◌else◌}
use Rattle.chan_values.specs.declared.end_reason.EndReason.TheVariants as why
use Rattle.chan_values.specs.declared.key.Key.{Key}
use Rattle.chan_values.specs.Tree.{Words, Tree, Leaf}
use Rattle.node_tree.specs.declared.answers.SetResult.{SetResult}
use Rattle.node_tree.specs.declared.answers.SetResult.TheVariants.{Changed}
use Rattle.focus_keys.specs.Chain.{focus_chain}
use Rattle.trace_report.specs.declared.entry.EntryName.{EntryName}
use Rattle.trace_report.specs.declared.entry.EntryName.TheVariants as entry
use Rattle.brs_grammar.specs.Form.{Text}
use Rattle.brs_meaning.specs.Request.{Access}
use Rattle.brs_meaning.specs.Answering.{Reply}
use Rattle.world_meaning.specs.Channel.{Channel, handles_keys}
use Rattle.world_meaning.specs.Labels.{Begins, Ends, Walks}
use Rattle.world_meaning.specs.Core as k
use Rattle.world_meaning.specs.Core.{Entry, KeyEntry, AccessEntry, LastEntry, name_of, Closing, Hands, GoesBack, Begun, EntryEnd, Actor, Core, Moved, moved, followed}
use Rattle.world_meaning.specs.Ending.{hand, end_run}
use Rattle.world_meaning.specs.Agendas.{invalid, settle}
use Rattle.world_meaning.specs.Effect.{Jobs, Effect, gives, serve}
use Rattle.world_meaning.specs.Changing.{change, set_of}
use Rattle.world_meaning.specs.Control.{is_of_node}
use Rattle.world_meaning.specs.Accesses.{effect, nodes_of}
use Rattle.node_tree.specs.Reach.{given}

-- ---- a posted access

-- its receiver and the nodes of its arguments become render's, with all that they reach
abbrev pub give_to_render : Access → Core → Core
give_to_render access c = record c { nodes = given c.nodes (nodes_of access) }

-- ---- a key

-- the chain is fixed now; those of its nodes are visited whose scope handles keys
abbrev pub begin_key : Channel → (number : ℕ) → Key → (press : Bool) → Core → Moved
begin_key ch number key press c =
    let handlers = filter (handles_keys ch c.nodes) (focus_chain c.nodes c.focus) in
    followed (moved (record c { agendas = k.Visits key press None handlers ∷ c.agendas }) (Walks number handlers ∷ [])) settle

-- ---- the last entry of a task

-- whether no actor behind this one was started by the node
abbrev pub none_later : (node : ℕ) → List Actor → Bool
none_later n [] = true
none_later n (x ∷ xs) = if is_of_node n x then false else none_later n xs

-- the node of an actor, where the actor is the last one that it started
abbrev pub last_of : List Actor → ℕ → Option ℕ
last_of [] a = None
last_of (x ∷ xs) zero = elim x.node [ None ↦ None | Some n ↦ if none_later n xs then Some n else None ]
last_of (x ∷ xs) (suc a) = last_of xs a

abbrev pub state_word : (returned : Bool) → Text
state_word true = codes "done"
state_word false = codes "stop"

-- `state` is set as by any set, and its deliveries come before the entry's end
abbrev pub set_state_by : SetResult → (node : ℕ) → Tree → Core → Effect
set_state_by Changed n v c = record { after = change n (codes "state") v EntryEnd c; result = Jobs }
set_state_by _ n v c = gives invalid c

abbrev pub set_state : Option ℕ → (returned : Bool) → Core → Effect
set_state None returned c = gives invalid c
set_state (Some n) returned c = set_state_by (set_of c n (codes "state") (Leaf (Words (state_word returned)))) n (Leaf (Words (state_word returned))) c

-- ---- a begin

abbrev pub begin_entry : Channel → Entry → Core → Moved
begin_entry ch (KeyEntry number key press) c = begin_key ch number key press c
begin_entry ch (AccessEntry a number access) c = serve (effect ch None access (give_to_render access c))
begin_entry ch (LastEntry a number returned) c = serve (set_state (last_of c.actors a) returned c)

-- the first entry leaves the inbox
abbrev pub begin : Channel → Entry → (rest : List Entry) → Core → Moved
begin ch e rest c =
    followed (moved (record c { inbox = rest; begun = Some (record { name = name_of e; closing = None }) }) (Begins (name_of e) ∷ [])) (begin_entry ch e)

-- ---- an end

abbrev pub hand_to : EntryName → Reply → Core → Core
hand_to (entry.Post a number) reply c = hand a reply c
hand_to (entry.Key number) reply c = c

abbrev pub closed : EntryName → Closing → Core → Core
closed name (Hands reply) c = hand_to name reply c
closed name GoesBack c = end_run why.Back c

-- an entry ends where it is known how it closes
abbrev pub end_entry : EntryName → Option Closing → Core → Option Moved
end_entry name None c = None
end_entry name (Some closing) c = Some (moved (closed name closing (record c { begun = None })) (Ends name ∷ []))

-- between the begin of an entry and its end no other begins
abbrev pub at_inbox : Channel → Option Begun → List Entry → Core → Option Moved
at_inbox ch (Some b) inbox c = end_entry b.name b.closing c
at_inbox ch None [] c = None
at_inbox ch None (e ∷ rest) c = Some (begin ch e rest c)
