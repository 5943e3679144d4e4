-- How many nodes a making makes, and what an answer, an end and a job of actor 0 leave within the bounds.
use Rattle.std.specs.Prelude.{slice_set, ◌-◌, length, if◌then◌else◌, codes, ◌≤◌, nat_le}
use Rattle.chan_values.specs.Tree.{Boolean, Words, Tree, Leaf}
use Rattle.node_tree.specs.Nodes.{with_fields}
use Rattle.node_tree.specs.Fields.{fields_after_set, after_set}
use Rattle.node_tree.specs.Reach.{changed_where}
use Rattle.focus_keys.specs.KeyText.{text_of}
use Rattle.brs_meaning.specs.Reduction.{home_of}
use Rattle.brs_meaning.specs.Program.{scoped, Function, heading}
use Rattle.brs_meaning.specs.Answering.{Values, Message', put, Reply, Value, Arguments, Put, Done, Refused}
use Rattle.world_meaning.specs.Channel.{function_of_node, Channel, function_at}
use Rattle.world_meaning.specs.Core.{homes_of_actor, store_of_actor, waiting_calls, Answer, Another, EntryEnd, Agenda, Deliveries, Inits, Called, Actor, Core, actor_at, change_actor, with_agendas, posts_of, tree_of_actor}
use Rattle.world_meaning.specs.Making.{below}
use Rattle.std.proofs.Common.{◌≡◌, ℕ, zero, suc, ◌+◌, Bool, true, false, List, [], ◌∷◌, ◌++◌, Option, Some, None, refl, sym, ap, subst, arith}
use Rattle.chan_values.specs.Folded.{folded}
use Rattle.chan_values.specs.declared.error_code.ErrorCode.TheVariants.{E9}
use Rattle.chan_values.specs.declared.key.Key.{Key}
use Rattle.chan_values.specs.declared.message.Message.{Message}
use Rattle.field_observers.specs.declared.target.Target.{Target}
use Rattle.message_ports.specs.Messages.{messages_of, with_messages}
use Rattle.node_tree.specs.declared.node.Node.{Node}
use Rattle.brs_grammar.specs.Form.{Text}
use Rattle.world_meaning.specs.Ending.{with_state, handed, ended, fail_where, answered_at, answer, is_idle_first, refused_at, refuse}
use Rattle.world_meaning.specs.Agendas.{Left, Came, TooLarge, settle, finish, call_handler, invalid, settled, returned, takes, visited, finished, topped, call_on_top, deliver_to}
use Rattle.world_meaning.specs.NodesMade.{nodes_made, most_nodes}
use Rattle.std.proofs.lemmas.Bool.{leb-true}
use Rattle.std.proofs.lemmas.List.{length-append}
use Rattle.field_types.specs.declared.plans.KindPlan.{KindPlan}
use Rattle.node_tree.specs.Making.{numbered, all_numbered, kind_subtree, made, made_count}
use Rattle.node_tree.specs.Subtree.{Subtree, subtree, Subtrees, none, more, size, all_sizes}
use Rattle.node_tree.specs.declared.children.Place.TheVariants.{Last}
use Rattle.node_tree.proofs.Places.{length_changed, length_with}
use Rattle.node_tree.proofs.Stays.{length_moved}
use Rattle.step_laws.specs.Counts.{Within, IsWithin}
use Rattle.step_laws.proofs.Actors.{at_changed}
use Rattle.step_laws.proofs.Actors.{posts_handed}
use Rattle.chan_values.specs.declared.error_code.ErrorCode.{ErrorCode}
use Rattle.chan_values.specs.declared.place.Place.{Place}
use Rattle.world_meaning.specs.Core as k
use Rattle.channel_meaning.specs.History as l
use Rattle.field_observers.specs.declared.target.Target.TheVariants as target

-- ---- lengths

length_set_at : {A : Type 0} (xs : List A) (i : ℕ) (y : A) → length (slice_set xs i y) ≡ length xs
length_set_at [] i y = refl
length_set_at (x ∷ xs) zero y = refl
length_set_at (x ∷ xs) (suc i) y = ap suc (length_set_at xs i y)

pub length_where : {A : Type 0} (p : ℕ → Bool) (f : A → A) (n : ℕ) (xs : List A) → length (changed_where p f n xs) ≡ length xs
length_where p f n [] = refl
length_where p f n (x ∷ xs) = ap suc (length_where p f (suc n) xs)

mutual
  length_numbered : (plans : List KindPlan) (owner : ℕ) (parent : Option ℕ) (first : ℕ) (t : Subtree) → length (numbered plans owner parent first t) ≡ size t
  length_numbered plans owner parent first (subtree place values children) = ap suc (length_all plans owner (Some first) (suc first) children)

  length_all : (plans : List KindPlan) (owner : ℕ) (parent : Option ℕ) (first : ℕ) (ts : Subtrees) → length (all_numbered plans owner parent first ts) ≡ all_sizes ts
  length_all plans owner parent first none = refl
  length_all plans owner parent first (more t ts) =
      let a = length-append (numbered plans owner parent first t) (all_numbered plans owner parent (first + size t) ts) in
      let b = length_numbered plans owner parent first t in
      let c = length_all plans owner parent (first + size t) ts in
      omega (arith, a, b, c)

pub few_made : (plans : List KindPlan) (nodes : List Node) (kind owner : ℕ) (after : List Node) → nodes_made plans nodes kind owner ≡ Some after → length after ≤ 1048576
few_made plans nodes kind owner after e = by_room (nat_le (length nodes + made_count plans kind) most_nodes) refl e
  where
    by_room : (b : Bool) → nat_le (length nodes + made_count plans kind) most_nodes ≡ b → (if b then Some (made nodes plans kind owner) else None) ≡ Some after → length after ≤ 1048576
    by_room false eb q = absurd (no q)
      where
        no : None ≡ Some after → ⊥
        no q = cc
    by_room true eb q =
        let same : made nodes plans kind owner ≡ after = cc in
        let room = leb-true (length nodes + made_count plans kind) 1048576 eb in
        let a = length-append nodes (numbered plans owner None (suc (length nodes)) (kind_subtree plans kind)) in
        let b = length_numbered plans owner None (suc (length nodes)) (kind_subtree plans kind) in
        subst (λ l. length l ≤ 1048576) same (omega (arith, room, a, b))

pub few_below : (parent : Option ℕ) (nodes : List Node) (n : ℕ) → length nodes ≤ 1048576 → length (below parent nodes n) ≤ 1048576
few_below None nodes n h = h
few_below (Some p) nodes n h = subst (λ k. k ≤ 1048576) (sym (length_moved Last nodes p n)) h

module _ (n : ℕ) where
  -- ---- what is changed

  pub with_nodes : (nodes : List Node) (c : Core) → length nodes ≤ 1048576 → IsWithin n c → Within n nodes c.ports c.actors
  with_nodes nodes c h w = record { few_nodes = h; few_ports = w.few_ports; few_actors = w.few_actors; few_posts = w.few_posts }

  pub same_length : (nodes : List Node) (c : Core) → length nodes ≡ length c.nodes → IsWithin n c → Within n nodes c.ports c.actors
  same_length nodes c e w = with_nodes nodes c (subst (λ k. k ≤ 1048576) (sym e) w.few_nodes) w

  pub with_ports : (c : Core) (port : ℕ) (messages : List Message) → IsWithin n c → Within n c.nodes (with_messages c.ports port messages) c.actors
  with_ports c port messages w = record { few_nodes = w.few_nodes; few_ports = subst (λ k. k ≤ 65536) (sym (length_set_at c.ports (port - 1) messages)) w.few_ports; few_actors = w.few_actors; few_posts = w.few_posts }

  pub set_within : (m : ℕ) (f : Text) (v : Tree) (c : Core) → IsWithin n c → Within n (after_set c.nodes m f v) c.ports c.actors
  set_within m f v c w = same_length (after_set c.nodes m f v) c (length_with (with_fields (fields_after_set f v)) c.nodes m) w

  pub actor_within : (a : ℕ) (f : Actor → Actor) (c : Core) → ((x : Actor) → (f x).posts ≡ x.posts) → IsWithin n c → IsWithin n (change_actor a f c)
  actor_within a f c same w = record {
    few_nodes = w.few_nodes;
    few_ports = w.few_ports;
    few_actors = subst (λ k. k ≤ 4096) (sym (length_changed f c.actors a)) w.few_actors;
    few_posts = λ b. at_changed (λ o. posts_of o ≤ n) f c.actors a b (λ e x ex h. subst (λ k. k ≤ n) (sym (same x)) h) (w.few_posts b);
  }

  -- ---- answers and ends

  pub answered_within : (idle : Bool) (reply : Reply) (c : Core) → IsWithin n c → IsWithin n (answered_at idle reply c)
  answered_within true reply c w = w
  answered_within false reply c w = actor_within 0 (handed reply) c (posts_handed reply) w

  pub answer_within : (reply : Reply) (c : Core) → IsWithin n c → IsWithin n (answer reply c)
  answer_within reply c w = answered_within (is_idle_first c) reply c w

  pub fail_within : (o : Option Place) (e : ErrorCode) (c : Core) → IsWithin n c → IsWithin n (fail_where 0 e o c).core
  fail_within None e c w = w
  fail_within (Some at) e c w = actor_within 0 ended c (λ x. refl) w

  pub refused_within : (idle : Bool) (e : ErrorCode) (at : Option Place) (c : Core) → IsWithin n c → IsWithin n (refused_at idle e at c).core
  refused_within true e at c w = w
  refused_within false e at c w = fail_within at e c w

  pub refuse_within : (e : ErrorCode) (at : Option Place) (c : Core) → IsWithin n c → IsWithin n (refuse e at c).core
  refuse_within e at c w = refused_within (is_idle_first c) e at c w

  -- ---- agendas

  pub settled_within : (G : List Agenda) (c : Core) → IsWithin n c → IsWithin n (settled G c).core
  settled_within [] c w = w
  settled_within (Deliveries true message left next ∷ later) c w = w
  settled_within (Deliveries false message (x ∷ left) next ∷ later) c w = w
  settled_within (Deliveries false message [] (Answer reply) ∷ later) c w = answer_within reply (with_agendas later c) w
  settled_within (Deliveries false message [] Another ∷ later) c w = settled_within later (with_agendas later c) w
  settled_within (Deliveries false message [] EntryEnd ∷ later) c w = answer_within (Value invalid) (with_agendas later c) w
  settled_within (Inits true left reply ∷ later) c w = w
  settled_within (Inits false (i ∷ left) reply ∷ later) c w = w
  settled_within (Inits false [] reply ∷ later) c w = answer_within reply (with_agendas later c) w
  settled_within (Called ∷ later) c w = w
  settled_within (k.Visits key press (Some m) left ∷ later) c w = w
  settled_within (k.Visits key press None (m ∷ left) ∷ later) c w = w
  settled_within (k.Visits key press None [] ∷ later) c w = w

  pub settle_within : (c : Core) → IsWithin n c → IsWithin n (settle c).core
  settle_within c w = settled_within c.agendas c w

  pub returned_within : (v : Left) (c : Core) → IsWithin n c → IsWithin n (returned v c).core
  returned_within (Came v) c w = answer_within (Value v) c w
  returned_within (TooLarge at) c w = refuse_within E9 (Some at) c w

  pub visited_within : (taken : Bool) (key : Key) (press : Bool) (m : ℕ) (left : List ℕ) (later : List Agenda) (c : Core) → IsWithin n c → IsWithin n (visited taken key press m left later c).core
  visited_within true key press m left later c w = w
  visited_within false key press m left later c w = settled_within (k.Visits key press None left ∷ later) (with_agendas (k.Visits key press None left ∷ later) c) w

  pub finished_within : (v : Left) (G : List Agenda) (c : Core) → IsWithin n c → IsWithin n (finished v G c).core
  finished_within v [] c w = w
  finished_within v (Deliveries busy message left next ∷ later) c w = settled_within (Deliveries false message left next ∷ later) (with_agendas (Deliveries false message left next ∷ later) c) w
  finished_within v (Inits busy left reply ∷ later) c w = settled_within (Inits false left reply ∷ later) (with_agendas (Inits false left reply ∷ later) c) w
  finished_within v (Called ∷ later) c w = returned_within v (with_agendas later c) w
  finished_within v (k.Visits key press (Some m) left ∷ later) c w = visited_within (takes v) key press m left later c w
  finished_within v (k.Visits key press None left ∷ later) c w = w

  pub finish_within : (v : Left) (c : Core) → IsWithin n c → IsWithin n (finish v c).core
  finish_within v c w = finished_within v c.agendas c w

  pub topped_within : (f : Function) (p : Put) (c : Core) → IsWithin n c → IsWithin n (topped f p c).core
  topped_within f (Done s) c w = actor_within 0 (with_state s) c (λ x. refl) w
  topped_within f (Refused e) c w = fail_within (Some (heading f)) e c w

  pub call_within : (o : Option Function) (home : ℕ) (arguments : Arguments) (c : Core) → IsWithin n c → IsWithin n (call_on_top o home arguments c).core
  call_within None home arguments c w = finish_within (Came invalid) c w
  call_within (Some f) home arguments c w = topped_within f (put f home (homes_of_actor (actor_at c 0)) arguments (waiting_calls (tree_of_actor (actor_at c 0))) (store_of_actor (actor_at c 0))) c w

  pub deliver_within : (ch : Channel) (message : Message) (to : Target) (c : Core) → IsWithin n c → IsWithin n (deliver_to ch message to c).core
  deliver_within ch message (target.Function home name) c w = call_within (function_at ch (scoped ch.program (home_of (homes_of_actor (actor_at c 0)) home).scope (folded name))) home (Message' message) c w
  deliver_within ch message (target.Port port) c w = finish_within (Came invalid) (record c { ports = with_messages c.ports port (messages_of c.ports port ++ message ∷ []) }) (with_ports c port (messages_of c.ports port ++ message ∷ []) w)

  pub visit_within : (ch : Channel) (key : Key) (press : Bool) (m : ℕ) (home : Option ℕ) (c : Core) → IsWithin n c → IsWithin n (call_handler ch key press m home c).core
  visit_within ch key press m None c w = finish_within (Came invalid) c w
  visit_within ch key press m (Some home) c w = call_within (function_at ch (function_of_node ch c.nodes m (codes "onkeyevent"))) home (Values (Leaf (Words (text_of key)) ∷ Leaf (Boolean press) ∷ [])) c w
