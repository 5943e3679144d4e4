-- An owner changes only to render: what is made, set, moved and given, and what actor 0 does besides.
use Rattle.std.specs.Prelude.{length, if◌then◌else◌, codes, nat_le, option_map, slice_get}
use Rattle.chan_values.specs.Tree.{Boolean, Words, Tree, Leaf}
use Rattle.node_tree.specs.Nodes.{with_fields, owner_of}
use Rattle.node_tree.specs.Fields.{fields_after_set, after_set}
use Rattle.node_tree.specs.Reach.{changed_where, reached, render_owned, given}
use Rattle.focus_keys.specs.KeyText.{text_of}
use Rattle.brs_meaning.specs.Reduction.{home_of}
use Rattle.brs_meaning.specs.Program.{scoped, Function, heading}
use Rattle.brs_meaning.specs.Answering.{Values, Message', put, Reply, Value, Arguments, Put, Done, Refused}
use Rattle.world_meaning.specs.Channel.{function_of_node, Channel, function_at}
use Rattle.world_meaning.specs.Core.{homes_of_actor, store_of_actor, waiting_calls, Answer, Another, EntryEnd, Agenda, Deliveries, Inits, Called, Actor, Core, actor_at, change_actor, with_agendas, tree_of_actor, Moved}
use Rattle.world_meaning.specs.Making.{below}
use Rattle.std.proofs.Common.{◌≡◌, ℕ, zero, suc, ◌+◌, Bool, true, false, List, [], ◌∷◌, ◌++◌, Option, Some, None, refl, subst, inl, inr, ◌⊎◌, ◌∙◌}
use Rattle.chan_values.specs.Folded.{folded}
use Rattle.chan_values.specs.declared.error_code.ErrorCode.TheVariants.{E9}
use Rattle.chan_values.specs.declared.key.Key.{Key}
use Rattle.chan_values.specs.declared.message.Message.{Message}
use Rattle.field_observers.specs.declared.target.Target.{Target}
use Rattle.message_ports.specs.Messages.{messages_of, with_messages}
use Rattle.node_tree.specs.declared.node.Node.{Node}
use Rattle.brs_grammar.specs.Form.{Text}
use Rattle.world_meaning.specs.Ending.{with_state, handed, ended, fail_where, answered_at, answer, is_idle_first, refused_at, refuse}
use Rattle.world_meaning.specs.Agendas.{Left, Came, TooLarge, settle, finish, call_handler, invalid, settled, returned, takes, visited, finished, topped, call_on_top, deliver_to}
use Rattle.world_meaning.specs.NodesMade.{nodes_made, most_nodes}
use Rattle.field_types.specs.declared.plans.KindPlan.{KindPlan}
use Rattle.node_tree.specs.Making.{numbered, kind_subtree, made, made_count}
use Rattle.node_tree.specs.declared.children.Place.TheVariants.{Last}
use Rattle.step_laws.proofs.Actors.{posts_handed}
use Rattle.chan_values.specs.declared.error_code.ErrorCode.{ErrorCode}
use Rattle.chan_values.specs.declared.place.Place.{Place}
use Rattle.world_meaning.specs.Core as k
use Rattle.field_observers.specs.declared.target.Target.TheVariants as target
use Rattle.node_tree.specs.Owned.{OnlyToRender}
use Rattle.node_tree.proofs.Places.{read_with}
use Rattle.node_tree.proofs.Stays.{owner_moved}
use Rattle.node_tree.specs.Family.{appended}

abbrev pub Since : List Node → Core → Type 0
Since base c = OnlyToRender base c.nodes

abbrev pub IfSince : List Node → Option Moved → Type 0
IfSince base None = Unit {0}
IfSince base (Some m) = Since base m.core

-- ---- owners

no_owner : (a : ℕ) → None ≡ Some a → ⊥
no_owner a e = cc

owner_front_at : (xs ys : List Node) (i a : ℕ) → option_map (λ x. x.owner) (slice_get xs i) ≡ Some a → option_map (λ x. x.owner) (slice_get (xs ++ ys) i) ≡ Some a
owner_front_at [] ys i a e = absurd (no_owner a e)
owner_front_at (x ∷ xs) ys zero a e = e
owner_front_at (x ∷ xs) ys (suc i) a e = owner_front_at xs ys i a e

-- the nodes that were there keep their owners where others are made
owner_front : (nodes new : List Node) (n a : ℕ) → owner_of nodes n ≡ Some a → owner_of (nodes ++ new) n ≡ Some a
owner_front nodes new zero a e = absurd (no_owner a e)
owner_front nodes new (suc i) a e = owner_front_at nodes new i a e

-- an owner is as it was, or render's, where some nodes are given to render
given_at : (p : ℕ → Bool) (k : ℕ) (xs : List Node) (i a : ℕ) → option_map (λ x. x.owner) (slice_get xs i) ≡ Some a → (option_map (λ x. x.owner) (slice_get (changed_where p render_owned k xs) i) ≡ Some 0) ⊎ (option_map (λ x. x.owner) (slice_get (changed_where p render_owned k xs) i) ≡ Some a)
given_at p k [] i a e = inr e
given_at p k (x ∷ xs) zero a e = by_choice (p k)
  where
    by_choice : (b : Bool) → (option_map (λ x. x.owner) (Some (if b then render_owned x else x)) ≡ Some 0) ⊎ (option_map (λ x. x.owner) (Some (if b then render_owned x else x)) ≡ Some a)
    by_choice true = inl refl
    by_choice false = inr e
given_at p k (x ∷ xs) (suc i) a e = given_at p (suc k) xs i a e

given_owner : (nodes : List Node) (roots : List ℕ) (n a : ℕ) → owner_of nodes n ≡ Some a → (owner_of (given nodes roots) n ≡ Some 0) ⊎ (owner_of (given nodes roots) n ≡ Some a)
given_owner nodes roots zero a e = absurd (no_owner a e)
given_owner nodes roots (suc i) a e = given_at (reached nodes roots) 1 nodes i a e

either_zero : (after : List Node) (n a : ℕ) → (owner_of after n ≡ Some 0) ⊎ (owner_of after n ≡ Some 0) → (owner_of after n ≡ Some 0) ⊎ (owner_of after n ≡ Some a)
either_zero after n a (inl e) = inl e
either_zero after n a (inr e) = inl e

-- ---- since the nodes were these

same_at : (nodes after : List Node) (n a : ℕ) → owner_of after n ≡ owner_of nodes n → (owner_of nodes n ≡ Some 0) ⊎ (owner_of nodes n ≡ Some a) → (owner_of after n ≡ Some 0) ⊎ (owner_of after n ≡ Some a)
same_at nodes after n a q (inl e) = inl (q ∙ e)
same_at nodes after n a q (inr e) = inr (q ∙ e)

pub same_owners : (base after nodes : List Node) → ((i : ℕ) → owner_of after i ≡ owner_of nodes i) → OnlyToRender base nodes → OnlyToRender base after
same_owners base after nodes same w n a e = same_at nodes after n a (same n) (w n a e)

front_at : (nodes new : List Node) (n a : ℕ) → (owner_of nodes n ≡ Some 0) ⊎ (owner_of nodes n ≡ Some a) → (owner_of (nodes ++ new) n ≡ Some 0) ⊎ (owner_of (nodes ++ new) n ≡ Some a)
front_at nodes new n a (inl e) = inl (owner_front nodes new n 0 e)
front_at nodes new n a (inr e) = inr (owner_front nodes new n a e)

pub more_nodes : (base nodes new : List Node) → OnlyToRender base nodes → OnlyToRender base (nodes ++ new)
more_nodes base nodes new w n a e = front_at nodes new n a (w n a e)

given_from : (nodes : List Node) (roots : List ℕ) (n a : ℕ) → (owner_of nodes n ≡ Some 0) ⊎ (owner_of nodes n ≡ Some a) → (owner_of (given nodes roots) n ≡ Some 0) ⊎ (owner_of (given nodes roots) n ≡ Some a)
given_from nodes roots n a (inl e) = either_zero (given nodes roots) n a (given_owner nodes roots n 0 e)
given_from nodes roots n a (inr e) = given_owner nodes roots n a e

pub given_nodes : (base nodes : List Node) (roots : List ℕ) → OnlyToRender base nodes → OnlyToRender base (given nodes roots)
given_nodes base nodes roots w n a e = given_from nodes roots n a (w n a e)

pub made_nodes : (base : List Node) (plans : List KindPlan) (nodes : List Node) (kind owner : ℕ) (after : List Node) → nodes_made plans nodes kind owner ≡ Some after → OnlyToRender base nodes → OnlyToRender base after
made_nodes base plans nodes kind owner after e w = by_room (nat_le (length nodes + made_count plans kind) most_nodes) e
  where
    by_room : (b : Bool) → (if b then Some (made nodes plans kind owner) else None) ≡ Some after → OnlyToRender base after
    by_room false q = absurd (no q)
      where
        no : None ≡ Some after → ⊥
        no q = cc
    by_room true q =
        let same : made nodes plans kind owner ≡ after = cc in
        subst (OnlyToRender base) same (more_nodes base nodes (numbered plans owner None (suc (length nodes)) (kind_subtree plans kind)) w)

pub below_nodes : (base : List Node) (parent : Option ℕ) (nodes : List Node) (n : ℕ) → OnlyToRender base nodes → OnlyToRender base (below parent nodes n)
below_nodes base None nodes n w = w
below_nodes base (Some p) nodes n w = same_owners base (appended nodes p n) nodes (λ i. owner_moved Last nodes p n i) w

module _ (base : List Node) where
  pub set_since : (m : ℕ) (f : Text) (v : Tree) (c : Core) → Since base c → OnlyToRender base (after_set c.nodes m f v)
  set_since m f v c w = same_owners base (after_set c.nodes m f v) c.nodes (λ i. read_with (option_map (λ x. x.owner)) (with_fields (fields_after_set f v)) (λ x. refl) c.nodes m i) w

  pub actor_since : (a : ℕ) (f : Actor → Actor) (c : Core) → ((x : Actor) → (f x).posts ≡ x.posts) → Since base c → Since base (change_actor a f c)
  actor_since a f c same w = w

  -- ---- answers and ends

  pub answered_since : (idle : Bool) (reply : Reply) (c : Core) → Since base c → Since base (answered_at idle reply c)
  answered_since true reply c w = w
  answered_since false reply c w = actor_since 0 (handed reply) c (posts_handed reply) w

  pub answer_since : (reply : Reply) (c : Core) → Since base c → Since base (answer reply c)
  answer_since reply c w = answered_since (is_idle_first c) reply c w

  pub fail_since : (o : Option Place) (e : ErrorCode) (c : Core) → Since base c → Since base (fail_where 0 e o c).core
  fail_since None e c w = w
  fail_since (Some at) e c w = actor_since 0 ended c (λ x. refl) w

  pub refused_since : (idle : Bool) (e : ErrorCode) (at : Option Place) (c : Core) → Since base c → Since base (refused_at idle e at c).core
  refused_since true e at c w = w
  refused_since false e at c w = fail_since at e c w

  pub refuse_since : (e : ErrorCode) (at : Option Place) (c : Core) → Since base c → Since base (refuse e at c).core
  refuse_since e at c w = refused_since (is_idle_first c) e at c w

  -- ---- agendas

  pub settled_since : (G : List Agenda) (c : Core) → Since base c → Since base (settled G c).core
  settled_since [] c w = w
  settled_since (Deliveries true message left next ∷ later) c w = w
  settled_since (Deliveries false message (x ∷ left) next ∷ later) c w = w
  settled_since (Deliveries false message [] (Answer reply) ∷ later) c w = answer_since reply (with_agendas later c) w
  settled_since (Deliveries false message [] Another ∷ later) c w = settled_since later (with_agendas later c) w
  settled_since (Deliveries false message [] EntryEnd ∷ later) c w = answer_since (Value invalid) (with_agendas later c) w
  settled_since (Inits true left reply ∷ later) c w = w
  settled_since (Inits false (i ∷ left) reply ∷ later) c w = w
  settled_since (Inits false [] reply ∷ later) c w = answer_since reply (with_agendas later c) w
  settled_since (Called ∷ later) c w = w
  settled_since (k.Visits key press (Some m) left ∷ later) c w = w
  settled_since (k.Visits key press None (m ∷ left) ∷ later) c w = w
  settled_since (k.Visits key press None [] ∷ later) c w = w

  pub settle_since : (c : Core) → Since base c → Since base (settle c).core
  settle_since c w = settled_since c.agendas c w

  pub returned_since : (v : Left) (c : Core) → Since base c → Since base (returned v c).core
  returned_since (Came v) c w = answer_since (Value v) c w
  returned_since (TooLarge at) c w = refuse_since E9 (Some at) c w

  pub visited_since : (taken : Bool) (key : Key) (press : Bool) (m : ℕ) (left : List ℕ) (later : List Agenda) (c : Core) → Since base c → Since base (visited taken key press m left later c).core
  visited_since true key press m left later c w = w
  visited_since false key press m left later c w = settled_since (k.Visits key press None left ∷ later) (with_agendas (k.Visits key press None left ∷ later) c) w

  pub finished_since : (v : Left) (G : List Agenda) (c : Core) → Since base c → Since base (finished v G c).core
  finished_since v [] c w = w
  finished_since v (Deliveries busy message left next ∷ later) c w = settled_since (Deliveries false message left next ∷ later) (with_agendas (Deliveries false message left next ∷ later) c) w
  finished_since v (Inits busy left reply ∷ later) c w = settled_since (Inits false left reply ∷ later) (with_agendas (Inits false left reply ∷ later) c) w
  finished_since v (Called ∷ later) c w = returned_since v (with_agendas later c) w
  finished_since v (k.Visits key press (Some m) left ∷ later) c w = visited_since (takes v) key press m left later c w
  finished_since v (k.Visits key press None left ∷ later) c w = w

  pub finish_since : (v : Left) (c : Core) → Since base c → Since base (finish v c).core
  finish_since v c w = finished_since v c.agendas c w

  pub topped_since : (f : Function) (p : Put) (c : Core) → Since base c → Since base (topped f p c).core
  topped_since f (Done s) c w = actor_since 0 (with_state s) c (λ x. refl) w
  topped_since f (Refused e) c w = fail_since (Some (heading f)) e c w

  pub call_since : (o : Option Function) (home : ℕ) (arguments : Arguments) (c : Core) → Since base c → Since base (call_on_top o home arguments c).core
  call_since None home arguments c w = finish_since (Came invalid) c w
  call_since (Some f) home arguments c w = topped_since f (put f home (homes_of_actor (actor_at c 0)) arguments (waiting_calls (tree_of_actor (actor_at c 0))) (store_of_actor (actor_at c 0))) c w

  pub deliver_since : (ch : Channel) (message : Message) (to : Target) (c : Core) → Since base c → Since base (deliver_to ch message to c).core
  deliver_since ch message (target.Function home name) c w = call_since (function_at ch (scoped ch.program (home_of (homes_of_actor (actor_at c 0)) home).scope (folded name))) home (Message' message) c w
  deliver_since ch message (target.Port port) c w = finish_since (Came invalid) (record c { ports = with_messages c.ports port (messages_of c.ports port ++ message ∷ []) }) w

  pub visit_since : (ch : Channel) (key : Key) (press : Bool) (m : ℕ) (home : Option ℕ) (c : Core) → Since base c → Since base (call_handler ch key press m home c).core
  visit_since ch key press m None c w = finish_since (Came invalid) c w
  visit_since ch key press m (Some home) c w = call_since (function_at ch (function_of_node ch c.nodes m (codes "onkeyevent"))) home (Values (Leaf (Words (text_of key)) ∷ Leaf (Boolean press) ∷ [])) c w
