-- Steps of other actors than 0 keep the rule of owners.
use Rattle.std.proofs.Common.{◌≡◌, ℕ, zero, suc, ◌+◌, Bool, true, false, List, [], ◌∷◌, ◌++◌, Option, Some, None, refl, sym, ap, subst, inl, inr, length, arith}
use Rattle.std.specs.Prelude.{◌&&◌, slice_get, nat_lt}
use Rattle.chan_values.specs.declared.error_code.ErrorCode.{ErrorCode}
use Rattle.chan_values.specs.declared.error_code.ErrorCode.TheVariants.{E11}
use Rattle.chan_values.specs.declared.message.Message.{Message}
use Rattle.chan_values.specs.declared.place.Place.{Place}
use Rattle.chan_values.specs.Tree.{Tree, Leaf, NodeNumber, PortNumber}
use Rattle.field_types.specs.Plans.{IsPlanTable}
use Rattle.message_ports.specs.Messages.{messages_of, with_messages}
use Rattle.node_tree.specs.declared.node.Node.{Node}
use Rattle.node_tree.specs.declared.answers.SetResult.{SetResult}
use Rattle.node_tree.specs.declared.answers.SetResult.TheVariants.{NoField, NoFit, Same, Changed}
use Rattle.node_tree.specs.Nodes.{owner_of}
use Rattle.node_tree.specs.Family.{is}
use Rattle.node_tree.specs.Owned.{Of}
use Rattle.node_tree.proofs.Reached.{parts}
use Rattle.brs_grammar.specs.Form.{Text}
use Rattle.brs_meaning.specs.Running as t
use Rattle.brs_meaning.specs.Running.{Works, Waits}
use Rattle.brs_meaning.specs.Request as q
use Rattle.brs_meaning.specs.Request.{Access, Request, Asks, MakePort, Wait, Poll}
use Rattle.brs_meaning.specs.Reduction.{Outcome, Went, Asked, Printed, Raised, Returned, TooBig, Reduced, reduce}
use Rattle.brs_meaning.specs.Answering.{Reply, Value, Told, state, want_place}
use Rattle.brs_meaning.specs.NodeLaws.{StepNames, AnswerNames, CallOnTopNames}
use Rattle.brs_meaning.specs.Nodes.{Each, IfSome, TreeNames, MessageNames, CallsName, AccessNames, RequestNames, OutcomeNames, ReducedNames, ReplyNames}
use Rattle.world_meaning.specs.Channel.{Channel, kind_named}
use Rattle.world_meaning.specs.Core.{Entry, AccessEntry, LastEntry, Actor, Core, Moved, actor_at, change_actor, posts_of, tree_of_actor, followed}
use Rattle.world_meaning.specs.Ending.{with_state, with_post, hand, end_actor, post_entry, post_last, fail, fail_where, leave}
use Rattle.world_meaning.specs.Agendas.{invalid}
use Rattle.world_meaning.specs.Effect.{Result, Gives, Raises, Jobs, Calls, Effect}
use Rattle.world_meaning.specs.Changing.{set_of}
use Rattle.world_meaning.specs.NodesMade.{nodes_made}
use Rattle.world_meaning.specs.Making.{below}
use Rattle.world_meaning.specs.Asking.{most_ports, make_port, take_message, is_own_kind, is_local, set_own_by, made_own, make_own, own_effect, answer_own, access_own, access_by, ask}
use Rattle.world_meaning.specs.Steps.{put_back, other_shows, waits, unless, step_other}
use Rattle.owner_laws.specs.Owners.{IsActorOwned, IsEntryOwned, Owners, IfOwners}
use Rattle.owner_laws.proofs.Naming.{each_append, each_index, each_set, message_more}
use Rattle.owner_laws.proofs.Places.{of_render, some_is, step_owned, nodes_change, actor_change, with_ports, with_inbox}
use Rattle.owner_laws.proofs.Kin.{IsMaking, making, below_making, making_to_render}
use Rattle.owner_laws.proofs.Jobs.{with_state_owned, ended_owned, hand_owned}
use Rattle.owner_laws.proofs.Changes.{ResultNames, IsEffectOwned, set_change}
use Rattle.owner_laws.proofs.Accesses.{Owns, Receivers, quiet_owned}

-- ---- posts and ends

posted_owned : (c : Core) (a : ℕ) → Owners c → Owners (change_actor a with_post c)
posted_owned c a r = actor_change c a with_post (λ x e h. record { calls = h.calls; store = h.store; homes = h.homes; task = h.task }) r

post_owned : (a number : ℕ) (e : Entry) (c : Core) → IsEntryOwned c.nodes e → Owners c → Owners (post_entry a number e c).core
post_owned a number e c h r = with_inbox (change_actor a with_post c) (c.inbox ++ e ∷ []) (each_append (IsEntryOwned c.nodes) c.inbox (e ∷ []) r.entries (h, tt)) (posted_owned c a r)

last_owned : (a : ℕ) (done : Bool) (c : Core) → Owners c → Owners (post_last a done (end_actor a c)).core
last_owned a done c r = post_owned a (posts_of (actor_at (end_actor a c) a) + 1) (LastEntry a (posts_of (actor_at (end_actor a c) a) + 1) done) (end_actor a c) tt (ended_owned c a r)

fails_owned : (b : ℕ) (e : ErrorCode) (at : Place) (c : Core) → Owners c → Owners (fail (suc b) e at c).core
fails_owned zero e at c r = ended_owned c 1 r
fails_owned (suc b) e at c r = last_owned (suc (suc b)) false c r

fails_where_owned : (b : ℕ) (e : ErrorCode) (o : Option Place) (c : Core) → Owners c → Owners (fail_where (suc b) e o c).core
fails_where_owned b e None c r = r
fails_where_owned b e (Some at) c r = fails_owned b e at c r

leaves_owned : (b : ℕ) (c : Core) → Owners c → Owners (leave (suc b) c).core
leaves_owned zero c r = ended_owned c 1 r
leaves_owned (suc b) c r = last_owned (suc (suc b)) true c r

-- ---- ports

module _ (answers : AnswerNames) where
  pub take_owned : (m : List Message) (port a : ℕ) (c : Core) → Each (MessageNames (Of 0 c.nodes)) m → Owners c → Owners (take_message m port a c).core
  take_owned [] port a c h r = hand_owned answers a (Value invalid) c tt r
  take_owned (m ∷ rest) port a c h r =
      hand_owned answers a (Told m) (record c { ports = with_messages c.ports port rest }) (message_more (Of 0 c.nodes) (Of a c.nodes) (of_render a c.nodes) m h.0)
      (with_ports c (with_messages c.ports port rest) (each_set (Each (MessageNames (Of 0 c.nodes))) c.ports _ rest h.1 r.messages) r)

  pub waiting_owned : (port : ℕ) (c : Core) → Owners c → Each (MessageNames (Of 0 c.nodes)) (messages_of c.ports port)
  waiting_owned port c r = each_index (Each (MessageNames (Of 0 c.nodes))) c.ports _ [] tt r.messages

  pub new_port_owned : (a : ℕ) (c : Core) → Owners c → Owners (make_port true a c).core
  new_port_owned a c r = hand_owned answers a (Value (Leaf (PortNumber (length c.ports + 1)))) (record c { ports = c.ports ++ [] ∷ [] }) tt (with_ports c (c.ports ++ [] ∷ []) (each_append (Each (MessageNames (Of 0 c.nodes))) c.ports ([] ∷ []) r.messages (tt, tt)) r)

  port_owned : (b : ℕ) (room : Bool) (c : Core) → Owners c → Owners (make_port room (suc b) c).core
  port_owned b true c r = new_port_owned (suc b) c r
  port_owned b false c r = fails_where_owned b E11 (want_place (tree_of_actor (actor_at c (suc b)))) c r

-- ---- accesses at own nodes

-- a local access is one at nodes of its actor
pub local_receivers : (a : ℕ) (access : Access) (nodes : List Node) → is_local a access nodes ≡ true → Receivers (Owns a nodes) access
local_receivers a (q.Make kind) nodes e = tt
local_receivers a (q.Create n kind) nodes e = some_is a (owner_of nodes n) (parts (is a (owner_of nodes n)) (is_own_kind kind) e).0
local_receivers a (q.Append n child) nodes e = let both = parts (is a (owner_of nodes n)) (is a (owner_of nodes child)) e in (some_is a (owner_of nodes n) both.0, some_is a (owner_of nodes child) both.1)
local_receivers a (q.Insert n child at) nodes e = let both = parts (is a (owner_of nodes n)) (is a (owner_of nodes child)) e in (some_is a (owner_of nodes n) both.0, some_is a (owner_of nodes child) both.1)
local_receivers a (q.Remove n child) nodes e = let both = parts (is a (owner_of nodes n)) (is a (owner_of nodes child)) e in (some_is a (owner_of nodes n) both.0, some_is a (owner_of nodes child) both.1)
local_receivers a (q.Get n f) nodes e = some_is a (owner_of nodes n) e
local_receivers a (q.Set n f v) nodes e = some_is a (owner_of nodes n) e
local_receivers a (q.Has n f) nodes e = some_is a (owner_of nodes n) e
local_receivers a (q.Add n f word always) nodes e = some_is a (owner_of nodes n) e
local_receivers a (q.Child n at) nodes e = some_is a (owner_of nodes n) e
local_receivers a (q.Count n) nodes e = some_is a (owner_of nodes n) e
local_receivers a (q.Parent n) nodes e = some_is a (owner_of nodes n) e
local_receivers a (q.Find n id) nodes e = some_is a (owner_of nodes n) e
local_receivers a (q.Subtype n) nodes e = some_is a (owner_of nodes n) e
local_receivers a (q.Scene kind) nodes e = tt
local_receivers a (q.ObserveBy n f function) nodes e = tt
local_receivers a (q.ObserveAt n f port) nodes e = tt
local_receivers a (q.Unobserve n f) nodes e = tt
local_receivers a (q.Focus n on) nodes e = tt
local_receivers a (q.HasFocus n) nodes e = tt
local_receivers a (q.InChain n) nodes e = tt
local_receivers a (q.CallFunc n name arguments) nodes e = tt

set_own_owned : (a : ℕ) (x : SetResult) (n : ℕ) (f : Text) (v : Tree) (c : Core) → owner_of c.nodes n ≡ Some a → TreeNames (Of a c.nodes) v → Owners c → IsEffectOwned a (set_own_by x n f v c)
set_own_owned a NoField n f v c o h r = record { after = r; result = tt }
set_own_owned a NoFit n f v c o h r = record { after = r; result = tt }
set_own_owned a Same n f v c o h r = record { after = r; result = tt }
set_own_owned a Changed n f v c o h r = record { after = set_change a n f v c o h r; result = tt }

made_own_owned : (a : ℕ) (parent : Option ℕ) (x : Option (List Node)) (c : Core) → IfSome (λ p. owner_of c.nodes p ≡ Some a) parent → ((nodes : List Node) → x ≡ Some nodes → IsMaking c.nodes nodes a) → Owners c → IsEffectOwned a (made_own (suc (length c.nodes)) parent x c)
made_own_owned a parent None c h m r = record { after = r; result = tt }
made_own_owned a parent (Some nodes) c h m r =
    let after : List Node = below parent nodes (suc (length c.nodes)) in
    let b : IsMaking c.nodes after a = below_making c.nodes nodes a parent h (m nodes refl) in
    record { after = nodes_change c after (making_to_render c.nodes after a b) b.owned r; result = inr b.first }

make_own_owned : (ch : Channel) → IsPlanTable ch.plans → (a : ℕ) (kind parent : Option ℕ) (c : Core) → IfSome (λ p. owner_of c.nodes p ≡ Some a) parent → Owners c → IsEffectOwned a (make_own ch a kind parent c)
make_own_owned ch table a None parent c h r = record { after = r; result = tt }
make_own_owned ch table a (Some kind) parent c h r =
    let same : suc (length c.nodes) ≡ length c.nodes + 1 = omega arith in
    subst (λ n. IsEffectOwned a (made_own n parent (nodes_made ch.plans c.nodes kind a) c)) same
    (made_own_owned a parent (nodes_made ch.plans c.nodes kind a) c h (λ nodes e. making ch.plans c.nodes kind a nodes table e r.kin_and_fields) r)

own_owned : (ch : Channel) → IsPlanTable ch.plans → (a : ℕ) (access : Access) (c : Core) → Receivers (Owns a c.nodes) access → AccessNames (Of a c.nodes) access → Owners c → IsEffectOwned a (own_effect ch a access c)
own_owned ch table a (q.Make kind) c h n r = make_own_owned ch table a (kind_named ch kind) None c tt r
own_owned ch table a (q.Create m kind) c h n r = make_own_owned ch table a (kind_named ch kind) (Some m) c h r
own_owned ch table a (q.Set m f v) c h n r = set_own_owned a (set_of c m f v) m f v c h n.1 r
own_owned ch table a (q.Scene kind) c h n r = quiet_owned a (q.Scene kind) c h r
own_owned ch table a (q.Get m f) c h n r = quiet_owned a (q.Get m f) c h r
own_owned ch table a (q.Has m f) c h n r = quiet_owned a (q.Has m f) c h r
own_owned ch table a (q.Add m f kind always) c h n r = quiet_owned a (q.Add m f kind always) c h r
own_owned ch table a (q.ObserveBy m f function) c h n r = quiet_owned a (q.ObserveBy m f function) c h r
own_owned ch table a (q.ObserveAt m f port) c h n r = quiet_owned a (q.ObserveAt m f port) c h r
own_owned ch table a (q.Unobserve m f) c h n r = quiet_owned a (q.Unobserve m f) c h r
own_owned ch table a (q.Append m child) c h n r = quiet_owned a (q.Append m child) c h r
own_owned ch table a (q.Insert m child at) c h n r = quiet_owned a (q.Insert m child at) c h r
own_owned ch table a (q.Remove m child) c h n r = quiet_owned a (q.Remove m child) c h r
own_owned ch table a (q.Child m at) c h n r = quiet_owned a (q.Child m at) c h r
own_owned ch table a (q.Count m) c h n r = quiet_owned a (q.Count m) c h r
own_owned ch table a (q.Parent m) c h n r = quiet_owned a (q.Parent m) c h r
own_owned ch table a (q.Find m id) c h n r = quiet_owned a (q.Find m id) c h r
own_owned ch table a (q.Focus m on) c h n r = quiet_owned a (q.Focus m on) c h r
own_owned ch table a (q.HasFocus m) c h n r = quiet_owned a (q.HasFocus m) c h r
own_owned ch table a (q.InChain m) c h n r = quiet_owned a (q.InChain m) c h r
own_owned ch table a (q.Subtype m) c h n r = quiet_owned a (q.Subtype m) c h r
own_owned ch table a (q.CallFunc m name arguments) c h n r = quiet_owned a (q.CallFunc m name arguments) c h r

-- ---- steps

module _ (answers : AnswerNames) (ch : Channel) (table : IsPlanTable ch.plans) where
  answer_own_owned : (b : ℕ) (x : Result) (c : Core) → ResultNames (Of (suc b) c.nodes) x → Owners c → Owners (answer_own (suc b) x c).core
  answer_own_owned b (Gives v) c h r = hand_owned answers (suc b) (Value v) c h r
  answer_own_owned b (Raises e) c h r = fails_where_owned b e (want_place (tree_of_actor (actor_at c (suc b)))) c r
  answer_own_owned b Jobs c h r = r
  answer_own_owned b (Calls f home arguments) c h r = r

  access_owned : (local : Bool) (b : ℕ) (access : Access) (c : Core) → is_local (suc b) access c.nodes ≡ local → AccessNames (Of (suc b) c.nodes) access → Owners c → Owners (access_by local ch (suc b) access c).core
  access_owned true b access c e h r =
      let x : Effect = own_effect ch (suc b) access c in
      let o : IsEffectOwned (suc b) x = own_owned ch table (suc b) access c (local_receivers (suc b) access c.nodes e) h r in
      answer_own_owned b x.result x.after.core o.result o.after
  access_owned false b access c e h r = post_owned (suc b) (posts_of (actor_at c (suc b)) + 1) (AccessEntry (suc b) (posts_of (actor_at c (suc b)) + 1) access) c h r

  ask_owned : (b : ℕ) (request : Request) (c : Core) → RequestNames (Of (suc b) c.nodes) request → Owners c → Owners (ask ch (suc b) request c).core
  ask_owned b (Asks access) c h r = access_owned (is_local (suc b) access c.nodes) b access c refl h r
  ask_owned b MakePort c h r = port_owned answers b (nat_lt (length c.ports) most_ports) c r
  ask_owned b (Wait port limited) c h r = take_owned answers (messages_of c.ports port) port (suc b) c (waiting_owned answers port c r) r
  ask_owned b (Poll port) c h r = take_owned answers (messages_of c.ports port) port (suc b) c (waiting_owned answers port c r) r

  shows_owned : (b : ℕ) (o : Outcome) (c : Core) → OutcomeNames (Of (suc b) c.nodes) o → Owners c → Owners (other_shows ch (suc b) o c).core
  shows_owned b Went c h r = r
  shows_owned b (Printed text) c h r = r
  shows_owned b (Asked request) c h r = ask_owned b request c h r
  shows_owned b (Raised e at) c h r = fails_owned b e at c r
  shows_owned b (Returned v) c h r = leaves_owned b c r
  shows_owned b (TooBig at) c h r = leaves_owned b c r

  unless_owned : (b : Bool) (m : Moved) → Owners m.core → IfOwners (unless b m)
  unless_owned true m r = tt
  unless_owned false m r = r

  pub other_owned : StepNames → (b : ℕ) (x : Actor) (tree : t.Tree) (c : Core) → actor_at c (suc b) ≡ Some x → x.tree ≡ tree → Owners c → IfOwners (step_other ch (suc b) x tree c)
  other_owned steps b x (Waits below) c e f r = tt
  other_owned steps b x (Works call spot tasks below) c e f r =
      let k : IsActorOwned c.nodes (suc b) x = subst (IfSome (IsActorOwned c.nodes (suc b))) e (r.actor (suc b)) in
      let s : Reduced = reduce ch.program (suc b) x.homes (Works call spot tasks below) x.store in
      let names : ReducedNames (Of (suc b) c.nodes) s = step_owned (suc b) c.nodes steps ch.program x.homes (Works call spot tasks below) x.store r.global k.homes (subst (CallsName (Of (suc b) c.nodes)) f k.calls) k.store in
      unless_owned (waits ch (suc b) x c) (other_shows ch (suc b) s.outcome (put_back (suc b) s c))
      (shows_owned b s.outcome (put_back (suc b) s c) names.0 (actor_change c (suc b) (with_state (state s.tree s.store)) (λ y g h. with_state_owned c (suc b) (state s.tree s.store) y (names.1, names.2) h) r))
