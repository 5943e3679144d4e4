-- A step of another actor than 0 leaves actor 0 in place.
use Rattle.std.proofs.Common.{◌≡◌, ℕ, zero, suc, ◌+◌, Bool, true, false, List, [], ◌∷◌, Option, Some, None, refl, ◌∙◌}
use Rattle.std.specs.Prelude.{length, slice_get, nat_lt}
use Rattle.chan_values.specs.declared.end_reason.EndReason.{EndReason}
use Rattle.chan_values.specs.declared.error_code.ErrorCode.{ErrorCode}
use Rattle.chan_values.specs.declared.error_code.ErrorCode.TheVariants.{E11}
use Rattle.chan_values.specs.declared.message.Message.{Message}
use Rattle.chan_values.specs.declared.place.Place.{Place}
use Rattle.chan_values.specs.Tree.{Tree}
use Rattle.field_types.specs.declared.types.FieldType.{FieldType}
use Rattle.field_types.specs.Words.{type_words, type_beside}
use Rattle.message_ports.specs.Messages.{messages_of}
use Rattle.node_tree.specs.declared.node.Node.{Node}
use Rattle.node_tree.specs.declared.answers.SetResult.{SetResult}
use Rattle.node_tree.specs.declared.answers.SetResult.TheVariants.{NoField, NoFit, Same, Changed}
use Rattle.node_tree.specs.Nodes.{changed}
use Rattle.brs_grammar.specs.Form.{Text}
use Rattle.brs_meaning.specs.Running as t
use Rattle.brs_meaning.specs.Running.{Works, Waits}
use Rattle.brs_meaning.specs.Request.{Access, Make, Scene, Get, Set, Has, Add, ObserveBy, ObserveAt, Unobserve, Append, Insert, Remove, Create, Child, Count, Parent, Find, Focus, HasFocus, InChain, Subtype, CallFunc, Request, Asks, MakePort, Wait, Poll}
use Rattle.brs_meaning.specs.Reduction.{Outcome, Went, Asked, Printed, Raised, Returned, TooBig, Reduced, reduce}
use Rattle.brs_meaning.specs.Answering.{want_place}
use Rattle.world_meaning.specs.Channel.{Channel, kind_named}
use Rattle.world_meaning.specs.Core.{Actor, Core, Moved, actor_at, tree_of_actor, followed}
use Rattle.world_meaning.specs.Ending.{ended, with_post, fail, fail_where, leave}
use Rattle.world_meaning.specs.NodesMade.{nodes_made}
use Rattle.world_meaning.specs.Asking.{make_port, take_message, is_local, access_own, access_by, ask, most_ports, set_own_by, made_own, make_own, answer_own}
use Rattle.world_meaning.specs.Accesses.{add_field}
use Rattle.world_meaning.specs.Changing.{set_of}
use Rattle.world_meaning.specs.Effect.{Effect}
use Rattle.world_meaning.specs.Steps.{put_back, other_shows, waits, unless, step_other, step_live, step_actor, step_running}
use Rattle.step_laws.specs.Isolation.{LeavesInPlace, IfLeaves, EveryOtherStep}

first_same : (f : Actor → Actor) (A : List Actor) (b : ℕ) → slice_get (changed f A (suc b)) 0 ≡ slice_get A 0
first_same f [] b = refl
first_same f (x ∷ A) b = refl

no : false ≡ true → ⊥
no e = cc

-- an actor ends and posts its last entry
both_same : (A : List Actor) (b : ℕ) → slice_get (changed with_post (changed ended A (suc b)) (suc b)) 0 ≡ slice_get A 0
both_same A b = first_same with_post (changed ended A (suc b)) b ∙ first_same ended A b

fails_in_place : (b : ℕ) (e : ErrorCode) (at : Place) (c : Core) → LeavesInPlace c (fail (suc b) e at c)
fails_in_place zero e at c = record { first = first_same ended c.actors 0; homes = refl; agendas = refl; begun = refl; observers = refl; focus = refl; posts = λ p. refl }
fails_in_place (suc b) e at c = record { first = both_same c.actors (suc b); homes = refl; agendas = refl; begun = refl; observers = refl; focus = refl; posts = λ p. refl }

leaves_in_place : (b : ℕ) (c : Core) → LeavesInPlace c (leave (suc b) c)
leaves_in_place zero c = record { first = first_same ended c.actors 0; homes = refl; agendas = refl; begun = refl; observers = refl; focus = refl; posts = λ p. refl }
leaves_in_place (suc b) c = record { first = both_same c.actors (suc b); homes = refl; agendas = refl; begun = refl; observers = refl; focus = refl; posts = λ p. refl }

fails_where : (b : ℕ) (e : ErrorCode) (o : Option Place) (c : Core) → LeavesInPlace c (fail_where (suc b) e o c)
fails_where b e None c = record { first = refl; homes = refl; agendas = refl; begun = refl; observers = refl; focus = refl; posts = λ p. refl }
fails_where b e (Some at) c = fails_in_place b e at c

takes_in_place : (b : ℕ) (m : List Message) (port : ℕ) (c : Core) → LeavesInPlace c (take_message m port (suc b) c)
takes_in_place b [] port c = record { first = first_same _ c.actors b; homes = refl; agendas = refl; begun = refl; observers = refl; focus = refl; posts = λ p. refl }
takes_in_place b (m ∷ rest) port c = record { first = first_same _ c.actors b; homes = refl; agendas = refl; begun = refl; observers = refl; focus = refl; posts = λ p. refl }

port_in_place : (b : ℕ) (room : Bool) (c : Core) → LeavesInPlace c (make_port room (suc b) c)
port_in_place b true c = record { first = first_same _ c.actors b; homes = refl; agendas = refl; begun = refl; observers = refl; focus = refl; posts = λ p. refl }
port_in_place b false c = fails_where b E11 (want_place (tree_of_actor (actor_at c (suc b)))) c

-- ---- accesses at own nodes

module _ (ch : Channel) (b : ℕ) (c : Core) where
  abbrev Own : Effect → Type 0
  Own e = LeavesInPlace c (followed e.after (answer_own (suc b) e.result))

  sets : (o : SetResult) (n : ℕ) (f : Text) (v : Tree) → Own (set_own_by o n f v c)
  sets NoField n f v = record { first = first_same _ c.actors b; homes = refl; agendas = refl; begun = refl; observers = refl; focus = refl; posts = λ p. refl }
  sets NoFit n f v = record { first = first_same _ c.actors b; homes = refl; agendas = refl; begun = refl; observers = refl; focus = refl; posts = λ p. refl }
  sets Same n f v = record { first = first_same _ c.actors b; homes = refl; agendas = refl; begun = refl; observers = refl; focus = refl; posts = λ p. refl }
  sets Changed n f v = record { first = first_same _ c.actors b; homes = refl; agendas = refl; begun = refl; observers = refl; focus = refl; posts = λ p. absurd (no p) }

  makes : (n : ℕ) (parent : Option ℕ) (o : Option (List Node)) → Own (made_own n parent o c)
  makes n parent None = fails_where b E11 (want_place (tree_of_actor (actor_at c (suc b)))) c
  makes n parent (Some nodes) = record { first = first_same _ c.actors b; homes = refl; agendas = refl; begun = refl; observers = refl; focus = refl; posts = λ p. absurd (no p) }

  makes_kind : (kind parent : Option ℕ) → Own (make_own ch (suc b) kind parent c)
  makes_kind None parent = record { first = first_same _ c.actors b; homes = refl; agendas = refl; begun = refl; observers = refl; focus = refl; posts = λ p. refl }
  makes_kind (Some kind) parent = makes (length c.nodes + 1) parent (nodes_made ch.plans c.nodes kind (suc b))

  adds : (n : ℕ) (f : Text) (o : Option FieldType) (always : Bool) → Own (add_field n f o always c)
  adds n f None always = record { first = first_same _ c.actors b; homes = refl; agendas = refl; begun = refl; observers = refl; focus = refl; posts = λ p. refl }
  adds n f (Some t) always = record { first = first_same _ c.actors b; homes = refl; agendas = refl; begun = refl; observers = refl; focus = refl; posts = λ p. absurd (no p) }

  own_in_place : (access : Access) → LeavesInPlace c (access_own ch (suc b) access c)
  own_in_place (Make kind) = makes_kind (kind_named ch kind) None
  own_in_place (Create n kind) = makes_kind (kind_named ch kind) (Some n)
  own_in_place (Set n f v) = sets (set_of c n f v) n f v
  own_in_place (Add n f kind always) = adds n f (type_beside type_words kind) always
  own_in_place (Get n f) = record { first = first_same _ c.actors b; homes = refl; agendas = refl; begun = refl; observers = refl; focus = refl; posts = λ p. absurd (no p) }
  own_in_place (Has n f) = record { first = first_same _ c.actors b; homes = refl; agendas = refl; begun = refl; observers = refl; focus = refl; posts = λ p. absurd (no p) }
  own_in_place (ObserveBy n f function) = record { first = first_same _ c.actors b; homes = refl; agendas = refl; begun = refl; observers = refl; focus = refl; posts = λ p. absurd (no p) }
  own_in_place (ObserveAt n f port) = record { first = first_same _ c.actors b; homes = refl; agendas = refl; begun = refl; observers = refl; focus = refl; posts = λ p. absurd (no p) }
  own_in_place (Unobserve n f) = record { first = first_same _ c.actors b; homes = refl; agendas = refl; begun = refl; observers = refl; focus = refl; posts = λ p. absurd (no p) }
  own_in_place (Append n child) = record { first = first_same _ c.actors b; homes = refl; agendas = refl; begun = refl; observers = refl; focus = refl; posts = λ p. absurd (no p) }
  own_in_place (Insert n child at) = record { first = first_same _ c.actors b; homes = refl; agendas = refl; begun = refl; observers = refl; focus = refl; posts = λ p. absurd (no p) }
  own_in_place (Remove n child) = record { first = first_same _ c.actors b; homes = refl; agendas = refl; begun = refl; observers = refl; focus = refl; posts = λ p. absurd (no p) }
  own_in_place (Child n at) = record { first = first_same _ c.actors b; homes = refl; agendas = refl; begun = refl; observers = refl; focus = refl; posts = λ p. absurd (no p) }
  own_in_place (Count n) = record { first = first_same _ c.actors b; homes = refl; agendas = refl; begun = refl; observers = refl; focus = refl; posts = λ p. absurd (no p) }
  own_in_place (Parent n) = record { first = first_same _ c.actors b; homes = refl; agendas = refl; begun = refl; observers = refl; focus = refl; posts = λ p. absurd (no p) }
  own_in_place (Find n id) = record { first = first_same _ c.actors b; homes = refl; agendas = refl; begun = refl; observers = refl; focus = refl; posts = λ p. absurd (no p) }
  own_in_place (Focus n on) = record { first = first_same _ c.actors b; homes = refl; agendas = refl; begun = refl; observers = refl; focus = refl; posts = λ p. absurd (no p) }
  own_in_place (HasFocus n) = record { first = first_same _ c.actors b; homes = refl; agendas = refl; begun = refl; observers = refl; focus = refl; posts = λ p. absurd (no p) }
  own_in_place (InChain n) = record { first = first_same _ c.actors b; homes = refl; agendas = refl; begun = refl; observers = refl; focus = refl; posts = λ p. absurd (no p) }
  own_in_place (Subtype n) = record { first = first_same _ c.actors b; homes = refl; agendas = refl; begun = refl; observers = refl; focus = refl; posts = λ p. absurd (no p) }
  own_in_place (CallFunc n name arguments) = record { first = first_same _ c.actors b; homes = refl; agendas = refl; begun = refl; observers = refl; focus = refl; posts = λ p. absurd (no p) }
  own_in_place (Scene kind) = record { first = first_same _ c.actors b; homes = refl; agendas = refl; begun = refl; observers = refl; focus = refl; posts = λ p. absurd (no p) }

  accesses_in_place : (local : Bool) (access : Access) → LeavesInPlace c (access_by local ch (suc b) access c)
  accesses_in_place true access = own_in_place access
  accesses_in_place false access = record { first = first_same with_post c.actors b; homes = refl; agendas = refl; begun = refl; observers = refl; focus = refl; posts = λ p. refl }

  asks_in_place : (request : Request) → LeavesInPlace c (ask ch (suc b) request c)
  asks_in_place (Asks access) = accesses_in_place (is_local (suc b) access c.nodes) access
  asks_in_place MakePort = port_in_place b (nat_lt (length c.ports) most_ports) c
  asks_in_place (Wait port limited) = takes_in_place b (messages_of c.ports port) port c
  asks_in_place (Poll port) = takes_in_place b (messages_of c.ports port) port c

  shows_in_place : (o : Outcome) → LeavesInPlace c (other_shows ch (suc b) o c)
  shows_in_place Went = record { first = refl; homes = refl; agendas = refl; begun = refl; observers = refl; focus = refl; posts = λ p. refl }
  shows_in_place (Printed text) = record { first = refl; homes = refl; agendas = refl; begun = refl; observers = refl; focus = refl; posts = λ p. refl }
  shows_in_place (Asked request) = asks_in_place request
  shows_in_place (Raised e at) = fails_in_place b e at c
  shows_in_place (Returned v) = leaves_in_place b c
  shows_in_place (TooBig at) = leaves_in_place b c

-- ---- steps

-- the calls are put back first
put_in_place : (b : ℕ) (r : Reduced) (c : Core) (m : Moved) → LeavesInPlace (put_back (suc b) r c) m → LeavesInPlace c m
put_in_place b r c m h = record { first = h.first ∙ first_same _ c.actors b; homes = h.homes; agendas = h.agendas; begun = h.begun; observers = h.observers; focus = h.focus; posts = h.posts }

unless_in_place : (b : Bool) (c : Core) (m : Moved) → LeavesInPlace c m → IfLeaves c (unless b m)
unless_in_place true c m h = tt
unless_in_place false c m h = h

other_in_place : (ch : Channel) (b : ℕ) (x : Actor) (tree : t.Tree) (c : Core) → IfLeaves c (step_other ch (suc b) x tree c)
other_in_place ch b x (Waits below) c = tt
other_in_place ch b x (Works call spot tasks below) c =
    let r : Reduced = reduce ch.program (suc b) x.homes (Works call spot tasks below) x.store in
    unless_in_place (waits ch (suc b) x c) c (other_shows ch (suc b) r.outcome (put_back (suc b) r c)) (put_in_place b r c (other_shows ch (suc b) r.outcome (put_back (suc b) r c)) (shows_in_place ch b (put_back (suc b) r c) r.outcome))

live_in_place : (live : Bool) (ch : Channel) (b : ℕ) (x : Actor) (c : Core) → IfLeaves c (step_live live ch (suc b) x c)
live_in_place false ch b x c = tt
live_in_place true ch b x c = other_in_place ch b x x.tree c

actor_in_place : (ch : Channel) (b : ℕ) (o : Option Actor) (c : Core) → IfLeaves c (step_actor ch (suc b) o c)
actor_in_place ch b None c = tt
actor_in_place ch b (Some x) c = live_in_place x.live ch b x c

pub other_steps : EveryOtherStep
other_steps ch b c = running c.ending
  where
    running : (o : Option EndReason) → IfLeaves c (step_running o ch (suc b) c)
    running (Some reason) = tt
    running None = actor_in_place ch b (actor_at c (suc b)) c
