-- A step of another actor than 0 leaves the nodes that aren't its own.
use Rattle.std.proofs.Common.{◌≡◌, ◌≢◌, ℕ, zero, suc, ◌+◌, Bool, true, false, List, [], ◌∷◌, ◌++◌, Option, Some, None, refl, sym, ap, ◌∙◌, subst, length, arith}
use Rattle.std.specs.List.{AllByRecursion}
use Rattle.std.specs.Prelude.{ℤ, pos, negsuc, slice_get, option_map, nat_le, nat_lt, if◌then◌else◌}
use Rattle.chan_values.specs.declared.end_reason.EndReason.{EndReason}
use Rattle.chan_values.specs.declared.error_code.ErrorCode.{ErrorCode}
use Rattle.chan_values.specs.declared.message.Message.{Message}
use Rattle.chan_values.specs.declared.place.Place.{Place as Where}
use Rattle.chan_values.specs.Tree.{Tree}
use Rattle.field_types.specs.declared.types.FieldType.{FieldType}
use Rattle.field_types.specs.declared.plans.KindPlan.{KindPlan}
use Rattle.field_types.specs.Words.{type_words, type_beside}
use Rattle.message_ports.specs.Messages.{messages_of}
use Rattle.node_tree.specs.declared.node.Node.{Node}
use Rattle.node_tree.specs.declared.answers.SetResult.{SetResult}
use Rattle.node_tree.specs.declared.answers.SetResult.TheVariants.{NoField, NoFit, Same, Changed}
use Rattle.node_tree.specs.declared.children.Place.{Place}
use Rattle.node_tree.specs.declared.children.Place.TheVariants.{At, Last}
use Rattle.node_tree.specs.Nodes.{node_at, owner_of, parent_in, parent_of, changed, with_node, with_fields, with_children, with_parent}
use Rattle.node_tree.specs.Fields.{has_field, added_field, fields_after_set, after_set, after_add}
use Rattle.node_tree.specs.Family.{without, with_child, left_parent, left, standing, can_stand, moved, appended, inserted, is_child, removed}
use Rattle.node_tree.specs.Subtree.{Subtree, subtree}
use Rattle.node_tree.specs.Making.{made, numbered, all_numbered, kind_subtree}
use Rattle.node_tree.specs.Reach.{parent_and}
use Rattle.node_tree.specs.Owned.{AreNodesOwned}
use Rattle.node_tree.proofs.Places.{read_with}
use Rattle.node_tree.proofs.Stays.{owner_left}
use Rattle.node_tree.proofs.Numbered.{get_front}
use Rattle.brs_grammar.specs.Form.{Text}
use Rattle.brs_meaning.specs.Nodes.{IfSome}
use Rattle.brs_meaning.specs.Running as t
use Rattle.brs_meaning.specs.Running.{Works, Waits}
use Rattle.brs_meaning.specs.Request as q
use Rattle.brs_meaning.specs.Request.{Access, Request, Asks, MakePort, Wait, Poll}
use Rattle.brs_meaning.specs.Reduction.{Outcome, Went, Asked, Printed, Raised, Returned, TooBig, Reduced, reduce}
use Rattle.brs_meaning.specs.Answering.{want_place}
use Rattle.world_meaning.specs.Channel.{Channel, kind_named}
use Rattle.world_meaning.specs.Core.{Actor, Core, Moved, actor_at, tree_of_actor, followed}
use Rattle.world_meaning.specs.Ending.{fail, fail_where, leave}
use Rattle.world_meaning.specs.Effect.{Result, Gives, Raises, Jobs, Calls, Effect}
use Rattle.world_meaning.specs.Accesses.{add_field, quiet}
use Rattle.world_meaning.specs.Changing.{set_of}
use Rattle.world_meaning.specs.Making.{below}
use Rattle.world_meaning.specs.NodesMade.{nodes_made, most_nodes}
use Rattle.world_meaning.specs.Asking.{most_ports, make_port, take_message, is_local, set_own_by, made_own, make_own, own_effect, answer_own, access_own, access_by, ask}
use Rattle.world_meaning.specs.Steps.{put_back, other_shows, waits, unless, step_other, step_live, step_actor, step_running, step}
use Rattle.owner_laws.specs.Isolated.{LeavesOthers, IfLeavesOthers, OtherStepsLeaveNodes}
use Rattle.owner_laws.proofs.Kin.{made_others, made_first, first_of, room}
use Rattle.owner_laws.proofs.Accesses.{Owns, Receivers}
use Rattle.owner_laws.proofs.Own.{local_receivers}

some_same : {A : Type 0} {x y : A} → Some x ≡ Some y → x ≡ y
some_same e = cc

-- ---- one node changes

at_other : (f : Node → Node) (xs : List Node) (i j : ℕ) (x : Node) → (i ≡ j → ⊥) → slice_get xs j ≡ Some x → slice_get (changed f xs i) j ≡ Some x
at_other f [] i j x apart e = e
at_other f (y ∷ xs) zero zero x apart e = absurd (apart refl)
at_other f (y ∷ xs) zero (suc j) x apart e = e
at_other f (y ∷ xs) (suc i) zero x apart e = e
at_other f (y ∷ xs) (suc i) (suc j) x apart e = at_other f xs i j x (λ p. apart (ap suc p)) e

other_node : (f : Node → Node) (nodes : List Node) (m n : ℕ) (x : Node) → (m ≡ n → ⊥) → node_at nodes n ≡ Some x → node_at (with_node f nodes m) n ≡ Some x
other_node f nodes zero n x apart e = e
other_node f nodes (suc i) zero x apart e = e
other_node f nodes (suc i) (suc j) x apart e = at_other f nodes i j x (λ p. apart (ap suc p)) e

-- a node with another owner isn't this one
differs : (a m n : ℕ) (nodes : List Node) (x : Node) → owner_of nodes m ≡ Some a → node_at nodes n ≡ Some x → x.owner ≢ a → m ≡ n → ⊥
differs a m n nodes x own e other same = other (some_same (sym (ap (option_map (λ z. z.owner)) e) ∙ sym (ap (owner_of nodes) same) ∙ own))

pub own_change : (a m : ℕ) (f : Node → Node) (nodes : List Node) → owner_of nodes m ≡ Some a → LeavesOthers a nodes (with_node f nodes m)
own_change a m f nodes own n x e other = other_node f nodes m n x (differs a m n nodes x own e other) e

-- ---- children

first_kin : (P : ℕ → Type 0) (o : Option ℕ) (ks : List ℕ) (p : ℕ) → o ≡ Some p → AllByRecursion P (parent_and o ks) → P p
first_kin P None ks p e h = absurd cc
first_kin P (Some q) ks p e h = subst P (some_same e) h.0

-- the parent of an own node is an own node
parent_own : (a c p : ℕ) (nodes : List Node) → AreNodesOwned nodes → owner_of nodes c ≡ Some a → parent_of nodes c ≡ Some p → owner_of nodes p ≡ Some a
parent_own a c p nodes h own e = go (node_at nodes c) refl own e
  where
    go : (o : Option Node) → node_at nodes c ≡ o → option_map (λ x. x.owner) o ≡ Some a → parent_in o ≡ Some p → owner_of nodes p ≡ Some a
    go None f g k = absurd cc
    go (Some x) f g k = first_kin (λ n. owner_of nodes n ≡ Some x.owner) x.parent x.children p k (h c x f).kin_of_one ∙ g

left_alone : (a c : ℕ) (nodes : List Node) → AreNodesOwned nodes → owner_of nodes c ≡ Some a → LeavesOthers a nodes (left nodes c)
left_alone a c nodes h own n x e other = go (parent_of nodes c) refl
  where
    go : (o : Option ℕ) → parent_of nodes c ≡ o → node_at (left_parent o c nodes) n ≡ Some x
    go None f = e
    go (Some p) f = own_change a p (with_children (without c)) nodes (parent_own a c p nodes h own f) n x e other

owner_with : (f : Node → Node) → ((x : Node) → (f x).owner ≡ x.owner) → (nodes : List Node) (m n : ℕ) → owner_of (with_node f nodes m) n ≡ owner_of nodes n
owner_with f same nodes m n = read_with (option_map (λ x. x.owner)) f (λ x. ap Some (same x)) nodes m n

standing_alone : (place : Place) (a m c : ℕ) (nodes : List Node) → owner_of nodes m ≡ Some a → owner_of nodes c ≡ Some a → LeavesOthers a nodes (standing place nodes m c)
standing_alone place a m c nodes own_m own_c n x e other =
    let between : List Node = with_node (with_children (with_child place c)) nodes m in
    own_change a c (with_parent (Some m)) between (owner_with (with_children (with_child place c)) (λ y. refl) nodes m c ∙ own_c) n x (own_change a m (with_children (with_child place c)) nodes own_m n x e other) other

moved_alone : (place : Place) (a m c : ℕ) (nodes : List Node) → LeavesOthers a nodes (left nodes c) → owner_of nodes m ≡ Some a → owner_of nodes c ≡ Some a → LeavesOthers a nodes (moved place nodes m c)
moved_alone place a m c nodes leaves own_m own_c n x e other = go (can_stand nodes m c)
  where
    go : (b : Bool) → node_at (if b then standing place (left nodes c) m c else nodes) n ≡ Some x
    go true = standing_alone place a m c (left nodes c) (owner_left nodes c m ∙ own_m) (owner_left nodes c c ∙ own_c) n x (leaves n x e other) other
    go false = e

inserted_alone : (a m c : ℕ) (at : ℤ) (nodes : List Node) → AreNodesOwned nodes → owner_of nodes m ≡ Some a → owner_of nodes c ≡ Some a → LeavesOthers a nodes (inserted nodes m c at)
inserted_alone a m c (pos at) nodes h own_m own_c n x e other = moved_alone (At at) a m c nodes (left_alone a c nodes h own_c) own_m own_c n x e other
inserted_alone a m c (negsuc at) nodes h own_m own_c n x e other = e

removed_alone : (a m c : ℕ) (nodes : List Node) → owner_of nodes m ≡ Some a → owner_of nodes c ≡ Some a → LeavesOthers a nodes (removed nodes m c)
removed_alone a m c nodes own_m own_c n x e other = go (is_child nodes m c)
  where
    go : (b : Bool) → node_at (if b then with_node (with_parent None) (with_node (with_children (without c)) nodes m) c else nodes) n ≡ Some x
    go true = own_change a c (with_parent None) (with_node (with_children (without c)) nodes m) (owner_with (with_children (without c)) (λ y. refl) nodes m c ∙ own_c) n x (own_change a m (with_children (without c)) nodes own_m n x e other) other
    go false = e

-- ---- fields

added_alone : (a m : ℕ) (f : Text) (t : FieldType) (always : Bool) (nodes : List Node) → owner_of nodes m ≡ Some a → LeavesOthers a nodes (after_add nodes m f t always)
added_alone a m f t always nodes own n x e other = go (has_field nodes m f)
  where
    go : (b : Bool) → node_at (if b then nodes else with_node (with_fields (λ fields. fields ++ added_field f t always ∷ [])) nodes m) n ≡ Some x
    go true = e
    go false = own_change a m (with_fields (λ fields. fields ++ added_field f t always ∷ [])) nodes own n x e other

add_alone : (a m : ℕ) (f : Text) (o : Option FieldType) (always : Bool) (c : Core) → owner_of c.nodes m ≡ Some a → LeavesOthers a c.nodes (add_field m f o always c).after.core.nodes
add_alone a m f None always c own n x e other = e
add_alone a m f (Some t) always c own n x e other = added_alone a m f t always c.nodes own n x e other

set_alone : (a : ℕ) (o : SetResult) (m : ℕ) (f : Text) (v : Tree) (c : Core) → owner_of c.nodes m ≡ Some a → LeavesOthers a c.nodes (set_own_by o m f v c).after.core.nodes
set_alone a NoField m f v c own n x e other = e
set_alone a NoFit m f v c own n x e other = e
set_alone a Same m f v c own n x e other = e
set_alone a Changed m f v c own n x e other = own_change a m (with_fields (fields_after_set f v)) c.nodes own n x e other

-- ---- makings

front_node : (nodes more : List Node) (n : ℕ) (x : Node) → node_at nodes n ≡ Some x → node_at (nodes ++ more) n ≡ Some x
front_node nodes more zero x e = e
front_node nodes more (suc i) x e = get_front nodes more i x e

-- a new node has no parent
no_parent : (plans : List KindPlan) (nodes : List Node) (kind a : ℕ) → parent_of (made nodes plans kind a) (suc (length nodes)) ≡ None
no_parent plans nodes kind a = go (kind_subtree plans kind)
  where
    go : (t : Subtree) → parent_in (slice_get (nodes ++ numbered plans a None (suc (length nodes)) t) (length nodes)) ≡ None
    go (subtree place values children) = ap parent_in (first_of _ nodes (all_numbered plans a (Some (suc (length nodes))) (suc (suc (length nodes))) children))

below_alone : (plans : List KindPlan) (nodes : List Node) (kind a : ℕ) (parent : Option ℕ) → IfSome (λ p. owner_of nodes p ≡ Some a) parent → LeavesOthers a nodes (below parent (made nodes plans kind a) (suc (length nodes)))
below_alone plans nodes kind a None own n x e other = front_node nodes (numbered plans a None (suc (length nodes)) (kind_subtree plans kind)) n x e
below_alone plans nodes kind a (Some p) own n x e other =
    let after : List Node = made nodes plans kind a in
    let c : ℕ = suc (length nodes) in
    moved_alone Last a p c after (subst (λ o. LeavesOthers a after (left_parent o c after)) (sym (no_parent plans nodes kind a)) (λ k y f g. f)) (made_others plans nodes kind a p a own) (made_first plans nodes kind a) n x
    (front_node nodes (numbered plans a None (suc (length nodes)) (kind_subtree plans kind)) n x e) other

made_alone : (plans : List KindPlan) (kind a : ℕ) (parent : Option ℕ) (o : Option (List Node)) (c : Core) → nodes_made plans c.nodes kind a ≡ o → IfSome (λ p. owner_of c.nodes p ≡ Some a) parent → LeavesOthers a c.nodes (made_own (suc (length c.nodes)) parent o c).after.core.nodes
made_alone plans kind a parent None c e own n x f other = f
made_alone plans kind a parent (Some nodes) c e own n x f other = subst (λ l. LeavesOthers a c.nodes (below parent l (suc (length c.nodes)))) (room plans c.nodes kind a nodes e) (below_alone plans c.nodes kind a parent own) n x f other

make_alone : (ch : Channel) (a : ℕ) (kind parent : Option ℕ) (c : Core) → IfSome (λ p. owner_of c.nodes p ≡ Some a) parent → LeavesOthers a c.nodes (make_own ch a kind parent c).after.core.nodes
make_alone ch a None parent c own n x f other = f
make_alone ch a (Some kind) parent c own n x f other =
    let same : suc (length c.nodes) ≡ length c.nodes + 1 = omega arith in
    subst (λ k. LeavesOthers a c.nodes (made_own k parent (nodes_made ch.plans c.nodes kind a) c).after.core.nodes) same (made_alone ch.plans kind a parent (nodes_made ch.plans c.nodes kind a) c refl own) n x f other

-- ---- accesses at own nodes

own_alone : (ch : Channel) (a : ℕ) (access : Access) (c : Core) → AreNodesOwned c.nodes → Receivers (Owns a c.nodes) access → LeavesOthers a c.nodes (own_effect ch a access c).after.core.nodes
own_alone ch a (q.Make kind) c h own n x e other = make_alone ch a (kind_named ch kind) None c tt n x e other
own_alone ch a (q.Create m kind) c h own n x e other = make_alone ch a (kind_named ch kind) (Some m) c own n x e other
own_alone ch a (q.Set m f v) c h own n x e other = set_alone a (set_of c m f v) m f v c own n x e other
own_alone ch a (q.Add m f word always) c h own n x e other = add_alone a m f (type_beside type_words word) always c own n x e other
own_alone ch a (q.Append m child) c h own n x e other = moved_alone Last a m child c.nodes (left_alone a child c.nodes h own.1) own.0 own.1 n x e other
own_alone ch a (q.Insert m child at) c h own n x e other = inserted_alone a m child at c.nodes h own.0 own.1 n x e other
own_alone ch a (q.Remove m child) c h own n x e other = removed_alone a m child c.nodes own.0 own.1 n x e other
own_alone ch a (q.Get m f) c h own n x e other = e
own_alone ch a (q.Has m f) c h own n x e other = e
own_alone ch a (q.Child m at) c h own n x e other = e
own_alone ch a (q.Count m) c h own n x e other = e
own_alone ch a (q.Parent m) c h own n x e other = e
own_alone ch a (q.Find m id) c h own n x e other = e
own_alone ch a (q.Subtype m) c h own n x e other = e
own_alone ch a (q.Scene kind) c h own n x e other = e
own_alone ch a (q.ObserveBy m f function) c h own n x e other = e
own_alone ch a (q.ObserveAt m f port) c h own n x e other = e
own_alone ch a (q.Unobserve m f) c h own n x e other = e
own_alone ch a (q.Focus m on) c h own n x e other = e
own_alone ch a (q.HasFocus m) c h own n x e other = e
own_alone ch a (q.InChain m) c h own n x e other = e
own_alone ch a (q.CallFunc m name arguments) c h own n x e other = e

-- ---- steps

-- an end, a post and an answer change no node
fails_alone : (b : ℕ) (e : ErrorCode) (at : Where) (c : Core) → (fail (suc b) e at c).core.nodes ≡ c.nodes
fails_alone zero e at c = refl
fails_alone (suc b) e at c = refl

fails_where_alone : (b : ℕ) (e : ErrorCode) (o : Option Where) (c : Core) → (fail_where (suc b) e o c).core.nodes ≡ c.nodes
fails_where_alone b e None c = refl
fails_where_alone b e (Some at) c = fails_alone b e at c

leaves_alone : (b : ℕ) (c : Core) → (leave (suc b) c).core.nodes ≡ c.nodes
leaves_alone zero c = refl
leaves_alone (suc b) c = refl

takes_alone : (m : List Message) (port a : ℕ) (c : Core) → (take_message m port a c).core.nodes ≡ c.nodes
takes_alone [] port a c = refl
takes_alone (m ∷ rest) port a c = refl

port_alone : (b : ℕ) (room : Bool) (c : Core) → (make_port room (suc b) c).core.nodes ≡ c.nodes
port_alone b true c = refl
port_alone b false c = fails_where_alone b _ (want_place (tree_of_actor (actor_at c (suc b)))) c

answer_alone : (b : ℕ) (o : Result) (c : Core) → (answer_own (suc b) o c).core.nodes ≡ c.nodes
answer_alone b (Gives v) c = refl
answer_alone b (Raises e) c = fails_where_alone b e (want_place (tree_of_actor (actor_at c (suc b)))) c
answer_alone b Jobs c = refl
answer_alone b (Calls f home arguments) c = refl

all_same : (a : ℕ) (before after : List Node) → after ≡ before → LeavesOthers a before after
all_same a before after same n x e other = ap (λ l. node_at l n) same ∙ e

module _ (ch : Channel) (b : ℕ) (c : Core) (h : AreNodesOwned c.nodes) where
  abbrev Alone : Moved → Type 0
  Alone m = LeavesOthers (suc b) c.nodes m.core.nodes

  access_alone : (local : Bool) (access : Access) → is_local (suc b) access c.nodes ≡ local → Alone (access_by local ch (suc b) access c)
  access_alone true access e n x f other =
      let o : Effect = own_effect ch (suc b) access c in
      ap (λ l. node_at l n) (answer_alone b o.result o.after.core) ∙ own_alone ch (suc b) access c h (local_receivers (suc b) access c.nodes e) n x f other
  access_alone false access e n x f other = f

  ask_alone : (request : Request) → Alone (ask ch (suc b) request c)
  ask_alone (Asks access) n x f other = access_alone (is_local (suc b) access c.nodes) access refl n x f other
  ask_alone MakePort n x f other = all_same (suc b) c.nodes _ (port_alone b (nat_lt (length c.ports) most_ports) c) n x f other
  ask_alone (Wait port limited) n x f other = all_same (suc b) c.nodes _ (takes_alone (messages_of c.ports port) port (suc b) c) n x f other
  ask_alone (Poll port) n x f other = all_same (suc b) c.nodes _ (takes_alone (messages_of c.ports port) port (suc b) c) n x f other

  shows_alone : (o : Outcome) → Alone (other_shows ch (suc b) o c)
  shows_alone Went n x f other = f
  shows_alone (Printed text) n x f other = f
  shows_alone (Asked request) n x f other = ask_alone request n x f other
  shows_alone (Raised e at) n x f other = all_same (suc b) c.nodes _ (fails_alone b e at c) n x f other
  shows_alone (Returned v) n x f other = all_same (suc b) c.nodes _ (leaves_alone b c) n x f other
  shows_alone (TooBig at) n x f other = all_same (suc b) c.nodes _ (leaves_alone b c) n x f other

unless_alone : (a : ℕ) (t : Bool) (c : Core) (m : Moved) → LeavesOthers a c.nodes m.core.nodes → IfLeavesOthers a c (unless t m)
unless_alone a true c m h = tt
unless_alone a false c m h = h

other_alone : (ch : Channel) (b : ℕ) (x : Actor) (tree : t.Tree) (c : Core) → AreNodesOwned c.nodes → IfLeavesOthers (suc b) c (step_other ch (suc b) x tree c)
other_alone ch b x (Waits below) c h = tt
other_alone ch b x (Works call spot tasks below) c h =
    let s : Reduced = reduce ch.program (suc b) x.homes (Works call spot tasks below) x.store in
    unless_alone (suc b) (waits ch (suc b) x c) c (other_shows ch (suc b) s.outcome (put_back (suc b) s c)) (shows_alone ch b (put_back (suc b) s c) h s.outcome)

live_alone : (live : Bool) (ch : Channel) (b : ℕ) (x : Actor) (c : Core) → AreNodesOwned c.nodes → IfLeavesOthers (suc b) c (step_live live ch (suc b) x c)
live_alone false ch b x c h = tt
live_alone true ch b x c h = other_alone ch b x x.tree c h

actor_alone : (ch : Channel) (b : ℕ) (o : Option Actor) (c : Core) → AreNodesOwned c.nodes → IfLeavesOthers (suc b) c (step_actor ch (suc b) o c)
actor_alone ch b None c h = tt
actor_alone ch b (Some x) c h = live_alone x.live ch b x c h

pub steps_alone : OtherStepsLeaveNodes
steps_alone ch b c h = running c.ending
  where
    running : (o : Option EndReason) → IfLeavesOthers (suc b) c (step_running o ch (suc b) c)
    running (Some reason) = tt
    running None = actor_alone ch b (actor_at c (suc b)) c h
