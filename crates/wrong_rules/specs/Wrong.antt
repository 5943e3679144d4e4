-- Rules that a run doesn't have, and the laws that they would break.
use Rattle.std.specs.Prelude.{ℕ, ◌+◌, Bool, true, false, List, [], ◌∷◌, ◌++◌, map, Option, None, length}
use Rattle.chan_values.specs.declared.event.Event.TheVariants as event
use Rattle.chan_values.specs.declared.key.Key.{Key}
use Rattle.chan_values.specs.declared.key.Key.TheVariants as key
use Rattle.chan_values.specs.Tree.{Tree, Leaf, Invalid, NodeNumber}
use Rattle.field_observers.specs.declared.target.Registration.{Registration}
use Rattle.field_types.specs.declared.types.FieldType.TheVariants as t
use Rattle.trace_report.specs.declared.entry.EntryName.{EntryName}
use Rattle.node_tree.specs.declared.node.Node.{Node}
use Rattle.node_tree.specs.Family.{has}
use Rattle.node_tree.specs.Reach.{changed_where, render_owned}
use Rattle.node_tree.specs.Search.{preorder}
use Rattle.node_tree.specs.Owned.{OnlyToRender, AreNodesOwned}
use Rattle.brs_grammar.specs.Form.{Text}
use Rattle.brs_meaning.specs.Request.{Access, Count}
use Rattle.world_meaning.specs.Channel.{Channel}
use Rattle.world_meaning.specs.Labels.{Begins, Stops, Drops, Changes, Answers, Walks, Visits, Takes}
use Rattle.world_meaning.specs.Core as k
use Rattle.world_meaning.specs.Core.{Entry, name_of, names, only, Agenda, Core, Moved, moved, followed}
use Rattle.world_meaning.specs.Ending.{end_actor}
use Rattle.world_meaning.specs.Agendas.{settle_with}
use Rattle.world_meaning.specs.Asking.{own_effect, answer_own, post}
use Rattle.world_meaning.specs.Entries.{begin, begin_entry}
use Rattle.channel_meaning.specs.History.{History, record_all, no_history}
use Rattle.channel_meaning.specs.World.{World, run, first_actor, opening_core}
use Rattle.channel_laws.specs.Laws.{PostsInTurn, EntriesInOrder, AllDelivered, AllWalked}

-- ---- the newest entry begins first

abbrev pub newest : Entry → List Entry → Entry
newest e [] = e
newest e (f ∷ rest) = newest f rest

abbrev pub but_newest : Entry → List Entry → List Entry
but_newest e [] = []
but_newest e (f ∷ rest) = e ∷ but_newest f rest

abbrev pub begin_newest : Channel → List Entry → Core → Moved
begin_newest ch [] c = moved c []
begin_newest ch (e ∷ rest) c =
    let one : Entry = newest e rest in
    followed (moved (record c { inbox = but_newest e rest }) (Begins (name_of one) ∷ [])) (begin_entry ch one)

-- two keys have come
abbrev pub after_two_keys : Channel → (bound : ℕ) → World
after_two_keys ch bound = run ch bound (event.Key key.Up true ∷ event.Key key.Up false ∷ [])

abbrev pub newest_first : Channel → (bound : ℕ) → History
newest_first ch bound = let w : World = after_two_keys ch bound in record_all (begin_newest ch w.core.inbox w.core).labels w.history

abbrev pub NewestFirstBreaks : Type 0
NewestFirstBreaks = (ch : Channel) (bound : ℕ) → EntriesInOrder (newest_first ch bound).trace (newest_first ch bound).arrivals → ⊥

-- ---- an access is done at its post

-- the actor posts, and goes on with the answer
abbrev pub done_at_post : Channel → ℕ → Access → Core → Moved
done_at_post ch a access c = followed (post a access c) (λ d. let e = own_effect ch a access d in followed e.after (answer_own a e.result))

-- actors 0 and 1, both idle
abbrev pub two_actors : Channel → Core
two_actors ch = record (opening_core ch) { actors = first_actor ∷ first_actor ∷ [] }

-- actor 1 asks twice for the number of children of the global node
abbrev pub posts_twice : Channel → History
posts_twice ch =
    let one : Moved = done_at_post ch 1 (Count 1) (two_actors ch) in
    record_all (done_at_post ch 1 (Count 1) one.core).labels (record_all one.labels no_history)

abbrev pub DoneAtPostBreaks : Type 0
DoneAtPostBreaks = (ch : Channel) → PostsInTurn 1 (posts_twice ch).trace → ⊥

-- ---- a stopped actor's access stays

-- the actor ends and its entry is dropped, but it stays in the inbox
abbrev pub stop_keeping : ℕ → Core → Moved
stop_keeping a c = moved (end_actor a c) (Stops a ∷ map (Drops a) (only a (names c.inbox)))

abbrev pub begin_next : Channel → List Entry → Core → Moved
begin_next ch [] c = moved c []
begin_next ch (e ∷ rest) c = begin ch e rest c

-- actors 0, 1 and 2, all idle
abbrev pub three_actors : Channel → Core
three_actors ch = record (opening_core ch) { actors = first_actor ∷ first_actor ∷ first_actor ∷ [] }

-- actor 2 posts and is stopped, and then the inbox begins what it has
abbrev pub begins_after_stop : Channel → History
begins_after_stop ch =
    let posted : Moved = post 2 (Count 1) (three_actors ch) in
    let stopped : Moved = stop_keeping 2 posted.core in
    record_all (begin_next ch stopped.core.inbox stopped.core).labels (record_all stopped.labels (record_all posted.labels no_history))

abbrev pub AccessStaysBreaks : Type 0
AccessStaysBreaks = (ch : Channel) → PostsInTurn 2 (begins_after_stop ch).trace → ⊥

-- ---- observers are taken at the delivery

-- one was registered at the change, and none is at the delivery, so that the answer follows at once
abbrev pub taken_at_delivery : (node : ℕ) → Text → Tree → Registration → History
taken_at_delivery n f v r = record_all (Changes n f v (r ∷ []) ∷ Answers ∷ []) no_history

abbrev pub TakenAtDeliveryBreaks : Type 0
TakenAtDeliveryBreaks = (n : ℕ) (f : Text) (v : Tree) (r : Registration) → AllDelivered ((taken_at_delivery n f v r).answered ++ (taken_at_delivery n f v r).unanswered) → ⊥

-- ---- a walk goes on after true

abbrev pub goes_on_after : (taken : Bool) → Key → Bool → (node : ℕ) → (left : List ℕ) → (later : List Agenda) → Core → Moved
goes_on_after taken button press n left later c = followed (moved c (Takes button press n taken ∷ [])) (settle_with (k.Visits button press None left ∷ later))

-- the handler of the first of two nodes takes the key, and the second is visited
abbrev pub visits_both : Channel → (one other : ℕ) → History
visits_both ch one other =
    let m : Moved = goes_on_after true key.Up true one (other ∷ []) [] (opening_core ch) in
    record_all (Visits other ∷ []) (record_all m.labels (record_all (Walks 1 (one ∷ other ∷ []) ∷ Visits one ∷ []) no_history))

abbrev pub GoesOnAfterTrueBreaks : Type 0
GoesOnAfterTrueBreaks = (ch : Channel) (one other : ℕ) (open_entry : Option EntryName) → AllWalked open_entry (visits_both ch one other).walks → ⊥

-- ---- gifts

abbrev pub node_with : (owner : ℕ) → (value : Tree) → Node
node_with owner v = record { kind = []; owner = owner; parent = None; children = []; fields = record { id = []; kind = t.Node; always = false; value = v; opening = Leaf Invalid } ∷ [] }

-- a node of render, and two of actor 2, of which the first names the second in a field
abbrev pub two_of_a_task : List Node
two_of_a_task = node_with 0 (Leaf Invalid) ∷ node_with 2 (Leaf (NodeNumber 3)) ∷ node_with 2 (Leaf Invalid) ∷ []

-- a gift that goes along children alone
abbrev pub given_along_children : List Node → ℕ → List Node
given_along_children nodes n = changed_where (λ m. has m (preorder (length nodes) nodes n)) render_owned 1 nodes

abbrev pub AlongChildrenBreaks : Type 0
AlongChildrenBreaks = AreNodesOwned two_of_a_task × (AreNodesOwned (given_along_children two_of_a_task 2) → ⊥)

-- an owner gets a node back that it gave
abbrev pub owned_by : ℕ → Node → Node
owned_by owner x = record x { owner = owner }

abbrev pub given_back : List Node → (node actor : ℕ) → List Node
given_back nodes n actor = changed_where (λ m. has m (n ∷ [])) (owned_by actor) 1 nodes

abbrev pub GivenBackBreaks : Type 0
GivenBackBreaks = OnlyToRender two_of_a_task (given_back two_of_a_task 1 2) → ⊥
