-- What an access does keeps the rule.
use Rattle.std.proofs.lemmas.List.Quantifiers.{position-Some}
use Rattle.std.proofs.lemmas.Option.{slice_get-get_or}
use Rattle.std.proofs.Common.{◌≡◌, ℕ, zero, suc, ◌+◌, Bool, true, false, List, [], ◌∷◌, ◌++◌, Option, Some, None, refl, sym, ◌∙◌, subst, map}
use Rattle.std.specs.Prelude.{◌&&◌, slice_get, get_or, drop, position, ◌-◌, length, is_some, option_and_then, nat_lt, if◌then◌else◌, codes}
use Rattle.std.specs.Str.{bytes_eq}
use Rattle.chan_values.specs.Folded.{folded}
use Rattle.chan_values.specs.Tree.{Words, NodeNumber, Tree, Leaf}
use Rattle.field_types.specs.declared.types.FieldType.{FieldType}
use Rattle.field_types.specs.Words.{type_words, type_beside}
use Rattle.field_observers.specs.declared.target.Target.{Target}
use Rattle.field_observers.specs.declared.target.Target.TheVariants as target
use Rattle.brs_meaning.specs.Program.{scoped, Function}
use Rattle.brs_meaning.specs.Reduction.{home_of}
use Rattle.node_tree.specs.declared.node.Node.{Node}
use Rattle.node_tree.specs.Nodes.{changed}
use Rattle.node_tree.specs.Fields.{has_field}
use Rattle.node_tree.specs.declared.answers.SetResult.{SetResult}
use Rattle.node_tree.specs.declared.answers.SetResult.TheVariants.{NoField, NoFit, Same, Changed}
use Rattle.brs_grammar.specs.Form.{Text}
use Rattle.brs_meaning.specs.Request.{Access, Make, Scene, Get, Set, Has, Add, ObserveBy, ObserveAt, Unobserve, Append, Insert, Remove, Create, Child, Count, Parent, Find, Focus, HasFocus, InChain, Subtype, CallFunc}
use Rattle.brs_meaning.specs.Answering.{Value, Values, state}
use Rattle.world_meaning.specs.Channel.{Channel, Component, function_in, component_at, kind_named, kind_of_node, has_interface, function_at}
use Rattle.world_meaning.specs.Labels.{Stops, Drops}
use Rattle.world_meaning.specs.Core.{names, only, Next, Answer, Another, Inits, Called, Actor, Core, actor_at, with_agendas, homes_of_actor, home_of_node}
use Rattle.world_meaning.specs.Ending.{ended, asking_place}
use Rattle.world_meaning.specs.Agendas.{yes}
use Rattle.world_meaning.specs.Effect.{Result, Gives, Raises, Jobs, Calls, Effect, follow, serve}
use Rattle.world_meaning.specs.Changing.{text_at, words_of, change, set_of, set_by, set}
use Rattle.world_meaning.specs.Control.{set_both, set_control, copied_m, most_actors, task_of, start, started_with, run_function, run_component, run_task, stop, stop_task, control, is_control, control_if, set_by_kind, is_of_node, live_task_of}
use Rattle.world_meaning.specs.NodesMade.{nodes_made}
use Rattle.world_meaning.specs.Making.{with_home, m_of, settle_in, settle_kind, settle_each, numbers_from, all_inits, below, begin_inits, made_by, make_kind, if_scene}
use Rattle.world_meaning.specs.Accesses.{add_field, quiet, register_if, observe_by, unobserve, call_interface, call_func, effect}
use Rattle.world_meaning.specs.Entries.{state_word}
use Rattle.channel_meaning.specs.World.{first_actor as some_actor}
use Rattle.channel_meaning.specs.History as l
use Rattle.channel_meaning.specs.History.{History, recorded, record_all}
use Rattle.channel_laws.specs.Laws.{follows_stop, Phase}
use Rattle.channel_laws.specs.Rule.{working, ActorIs, IsLast, name_of_begun, Holds, Rule}
use Rattle.channel_laws.proofs.Lists.{scan_more, names_without_posts}
use Rattle.channel_laws.proofs.Changes.{change_delivered}
use Rattle.channel_laws.proofs.Acts.{quiet as said_quiet, over_changes, drop_act}
use Rattle.channel_laws.proofs.Keeping.{Keeps, followed_keeps, quiet_start, quiet_stop, with_agenda, first_actor, answer_keeps, refuse_keeps, settle_keeps, call_keeps}

-- ---- effects of accesses

pub follow_keeps : (o : Result) (c : Core) (h : History) → Rule c h → Keeps (follow o c) h
follow_keeps (Gives v) c h r = answer_keeps (Value v) c h r
follow_keeps (Raises e) c h r = refuse_keeps e (asking_place c) c h r
follow_keeps Jobs c h r = settle_keeps c h r
follow_keeps (Calls f home arguments) c h r = call_keeps f home (Values arguments) (with_agendas (Called ∷ c.agendas) c) h (with_agenda c.agendas (Called ∷ c.agendas) c h (λ cs z. z) (λ w. w) r)

pub serve_keeps : (e : Effect) (h : History) → Keeps e.after h → Keeps (serve e) h
serve_keeps e h r = followed_keeps e.after (follow e.result) h r (λ g i. follow_keeps e.result e.after.core g i)

pub change_keeps : (n : ℕ) (f : Text) (v : Tree) (next : Next) (c : Core) (h : History) → IsLast next c.agendas → Rule c h → Keeps (change n f v next c) h
change_keeps n f v next c h last r = record {
  actor = r.actor;
  entries = r.entries;
  deliveries = change_delivered n (folded f) _ _ false _ next c.agendas h.answered h.unanswered h.trace refl refl last r.deliveries;
  walks = r.walks;
}

set_by_keeps : (o : SetResult) (n : ℕ) (f : Text) (v : Tree) (c : Core) (h : History) → Rule c h → Keeps (set_by o n f v c).after h
set_by_keeps NoField n f v c h r = r
set_by_keeps NoFit n f v c h r = r
set_by_keeps Same n f v c h r = r
set_by_keeps Changed n f v c h r = change_keeps n f v (Answer (Value yes)) c h tt r

set_keeps : (n : ℕ) (f : Text) (v : Tree) (c : Core) (h : History) → Rule c h → Keeps (set n f v c).after h
set_keeps n f v c h r = set_by_keeps (set_of c n f v) n f v c h r

-- ---- tasks

both_keeps : (one other : SetResult) (n : ℕ) (word state_word : Tree) (c : Core) (h : History) → Rule c h → Keeps (set_both one other n word state_word c).after h
both_keeps Changed Changed n word state_word c h r =
    followed_keeps (change n (codes "state") state_word (Answer (Value yes)) c) (change n (codes "control") word Another) h (change_keeps n (codes "state") state_word (Answer (Value yes)) c h tt r)
    (λ g i. change_keeps n (codes "control") word Another (change n (codes "state") state_word (Answer (Value yes)) c).core g tt i)
both_keeps Changed NoField n word state_word c h r = change_keeps n (codes "control") word (Answer (Value yes)) c h tt r
both_keeps Changed NoFit n word state_word c h r = change_keeps n (codes "control") word (Answer (Value yes)) c h tt r
both_keeps Changed Same n word state_word c h r = change_keeps n (codes "control") word (Answer (Value yes)) c h tt r
both_keeps NoField Changed n word state_word c h r = change_keeps n (codes "state") state_word (Answer (Value yes)) c h tt r
both_keeps NoFit Changed n word state_word c h r = change_keeps n (codes "state") state_word (Answer (Value yes)) c h tt r
both_keeps Same Changed n word state_word c h r = change_keeps n (codes "state") state_word (Answer (Value yes)) c h tt r
both_keeps NoField NoField n word state_word c h r = r
both_keeps NoField NoFit n word state_word c h r = r
both_keeps NoField Same n word state_word c h r = r
both_keeps NoFit NoField n word state_word c h r = r
both_keeps NoFit NoFit n word state_word c h r = r
both_keeps NoFit Same n word state_word c h r = r
both_keeps Same NoField n word state_word c h r = r
both_keeps Same NoFit n word state_word c h r = r
both_keeps Same Same n word state_word c h r = r

set_control_keeps : (n : ℕ) (word : Tree) (state_word : Text) (c : Core) (h : History) → Rule c h → Keeps (set_control n word state_word c).after h
set_control_keeps n word state_word c h r = both_keeps (set_of c n (codes "control") word) (set_of c n (codes "state") (Leaf (Words state_word))) n word (Leaf (Words state_word)) c h r

-- an actor more at the end of a list
more_at : {A : Type 0} (P : Option A → Type 0) (xs : List A) (y : A) (i : ℕ) → P (slice_get xs i) → (P None → P (Some y)) → P (slice_get (xs ++ y ∷ []) i)
more_at P [] y zero p new = new p
more_at P [] y (suc i) p new = p
more_at P (x ∷ xs) y zero p new = p
more_at P (x ∷ xs) y (suc i) p new = more_at P xs y i p new

new_is : (p : Phase) (y : Actor) → y.posts ≡ 0 → ActorIs p None → ActorIs p (Some y)
new_is p y none i = record { posts = none ∙ i.posts; works = λ w. i.works refl }

start_keeps : (f : Function) (scope : ℕ) (m : Tree) (n : ℕ) (c : Core) (h : History) → Rule c h → Keeps (start f scope m n c) h
start_keeps f scope m n c h r =
    said_quiet (l.Started (length c.actors) n) c.actors (c.actors ++ task_of f scope m n ∷ []) (names c.inbox) (name_of_begun c.begun) c.agendas h (quiet_start (length c.actors) n)
    (λ b p _ i. more_at (ActorIs p) c.actors (task_of f scope m n) (suc b) i (new_is p (task_of f scope m n) refl)) r

started_keeps : (o : Option Tree) (room : Bool) (f : Function) (scope n : ℕ) (word : Tree) (c : Core) (h : History) → Rule c h → Keeps (started_with o room f scope n word c).after h
started_keeps None room f scope n word c h r = r
started_keeps (Some m) false f scope n word c h r = r
started_keeps (Some m) true f scope n word c h r = followed_keeps (start f scope m n c) (λ d. (set_control n word (codes "run") d).after) h (start_keeps f scope m n c h r) (λ g i. set_control_keeps n word (codes "run") (start f scope m n c).core g i)

run_function_keeps : (o : Option Function) (scope n : ℕ) (word : Tree) (c : Core) (h : History) → Rule c h → Keeps (run_function o scope n word c).after h
run_function_keeps None scope n word c h r = set_control_keeps n word (codes "stop") c h r
run_function_keeps (Some f) scope n word c h r = started_keeps (copied_m c (home_of_node c n)) (nat_lt (length c.actors) most_actors) f scope n word c h r

run_component_keeps : (ch : Channel) (o : Option Component) (n : ℕ) (word : Tree) (c : Core) (h : History) → Rule c h → Keeps (run_component ch o n word c).after h
run_component_keeps ch None n word c h r = set_control_keeps n word (codes "stop") c h r
run_component_keeps ch (Some component) n word c h r = run_function_keeps (function_at ch (function_in ch component (text_at c.nodes n (codes "functionname")))) component.scope n word c h r

run_task_keeps : (ch : Channel) (o : Option ℕ) (n : ℕ) (word : Tree) (c : Core) (h : History) → Rule c h → Keeps (run_task ch o n word c).after h
run_task_keeps ch (Some task) n word c h r = set_keeps n (codes "control") word c h r
run_task_keeps ch None n word c h r = run_component_keeps ch (option_and_then (component_at ch) (kind_of_node ch c.nodes n)) n word c h r

-- an actor that isn't there may be at work
idle_after : (A : List Actor) (a : ℕ) (x : Actor) → slice_get A a ≡ Some x → working (slice_get (changed ended A a) a) ≡ false
idle_after [] a x e = absurd (no e)
  where
    no : None ≡ Some x → ⊥
    no e = cc
idle_after (y ∷ A) zero x e = refl
idle_after (y ∷ A) (suc a) x e = idle_after A a x e

dropped_at : (A : List Actor) (i : ℕ) (x : Actor) → slice_get (drop 2 A) i ≡ Some x → slice_get A (suc (suc i)) ≡ Some x
dropped_at [] i x e = e
dropped_at (y ∷ []) i x e = e
dropped_at (y ∷ z ∷ A) i x e = e

-- a task that was found is there
task_is : (n : ℕ) (c : Core) (i : ℕ) → live_task_of n c ≡ Some i → (x : Actor) × (actor_at c (suc (suc i)) ≡ Some x)
task_is n c i e =
    let found = position-Some (λ x. x.live && is_of_node n x) (drop 2 c.actors) i some_actor e in
    (get_or (drop 2 c.actors) i some_actor, dropped_at c.actors i (get_or (drop 2 c.actors) i some_actor) (slice_get-get_or (drop 2 c.actors) i some_actor found.0))

stop_keeps : (b : ℕ) (x : Actor) (c : Core) (h : History) → actor_at c (suc b) ≡ Some x → Rule c h → Keeps (stop (suc b) c) h
stop_keeps b x c h ex r =
    let A = changed ended c.actors (suc b) in
    let one = said_quiet (l.Stopped (suc b)) c.actors A (names c.inbox) (name_of_begun c.begun) c.agendas h (quiet_stop (suc b)) (λ a p _. over_changes ended c.actors (suc b) (λ y. refl) (λ y. refl) a p) r in
    let both = drop_act b A (names c.inbox) (name_of_begun c.begun) c.agendas (recorded (Stops (suc b)) h) (scan_more follows_stop (l.Stopped (suc b)) h.trace None r.entries.drops.0 r.entries.drops.1) (idle_after c.actors (suc b) x ex) one in
    subst (λ ns. Holds A ns (name_of_begun c.begun) c.agendas (record_all (Stops (suc b) ∷ map (Drops (suc b)) (only (suc b) (names c.inbox))) h)) (sym (names_without_posts (suc b) c.inbox)) both

stop_task_keeps : (o : Option ℕ) (n : ℕ) (word : Tree) (c : Core) (h : History) → live_task_of n c ≡ o → Rule c h → Keeps (stop_task o n word c).after h
stop_task_keeps None n word c h e r = set_keeps n (codes "control") word c h r
stop_task_keeps (Some task) n word c h e r =
    let x = task_is n c task e in
    followed_keeps (stop (suc (suc task)) c) (λ d. (set_control n word (codes "stop") d).after) h (stop_keeps (suc task) x.0 c h x.1 r) (λ g i. set_control_keeps n word (codes "stop") (stop (suc (suc task)) c).core g i)

control_keeps : (ch : Channel) (n : ℕ) (word : Tree) (c : Core) (h : History) → Rule c h → Keeps (control ch n word c).after h
control_keeps ch n word c h r = by_word (bytes_eq (folded (words_of word)) (codes "run")) (bytes_eq (folded (words_of word)) (codes "stop"))
  where
    by_word : (one other : Bool) → Keeps (if one then run_task ch (live_task_of n c) n word c else if other then stop_task (live_task_of n c) n word c else set n (codes "control") word c).after h
    by_word true other = run_task_keeps ch (live_task_of n c) n word c h r
    by_word false true = stop_task_keeps (live_task_of n c) n word c h refl r
    by_word false false = set_keeps n (codes "control") word c h r

control_if_keeps : (o : SetResult) (ch : Channel) (n : ℕ) (word : Tree) (c : Core) (h : History) → Rule c h → Keeps (control_if o ch n word c).after h
control_if_keeps NoField ch n word c h r = r
control_if_keeps NoFit ch n word c h r = r
control_if_keeps Same ch n word c h r = control_keeps ch n word c h r
control_if_keeps Changed ch n word c h r = control_keeps ch n word c h r

by_kind_keeps : (b : Bool) (ch : Channel) (n : ℕ) (f : Text) (v : Tree) (c : Core) (h : History) → Rule c h → Keeps (set_by_kind b ch n f v c).after h
by_kind_keeps true ch n f v c h r = control_if_keeps (set_of c n (codes "control") v) ch n v c h r
by_kind_keeps false ch n f v c h r = set_keeps n f v c h r

-- ---- makings

settle_in_keeps : (ch : Channel) (n kind : ℕ) (o : Option Component) (c : Core) (h : History) → Rule c h → Rule (settle_in ch n kind o c) h
settle_in_keeps ch n kind None c h r = r
settle_in_keeps ch n kind (Some component) c h r = first_actor (with_home component.scope (m_of n)) c.agendas c h r

settle_kind_keeps : (ch : Channel) (n : ℕ) (o : Option ℕ) (c : Core) (h : History) → Rule c h → Rule (settle_kind ch n o c) h
settle_kind_keeps ch n None c h r = r
settle_kind_keeps ch n (Some kind) c h r = settle_in_keeps ch n kind (component_at ch kind) c h r

settle_each_keeps : (ch : Channel) (ns : List ℕ) (c : Core) (h : History) → Rule c h → Rule (settle_each ch ns c) h
settle_each_keeps ch [] c h r = r
settle_each_keeps ch (n ∷ ns) c h r = settle_each_keeps ch ns (settle_kind ch n (kind_of_node ch c.nodes n) c) h (settle_kind_keeps ch n (kind_of_node ch c.nodes n) c h r)

inits_keep : (ch : Channel) (n : ℕ) (c : Core) (h : History) → Rule c h → Keeps (begin_inits ch n c).after h
inits_keep ch n c h r = with_agenda c.agendas (Inits false (all_inits ch c n) (Value (Leaf (NodeNumber n))) ∷ c.agendas) c h (λ cs z. z) (λ w. w) r

made_keeps : (ch : Channel) (n : ℕ) (parent : Option ℕ) (o : Option (List Node)) (c : Core) (h : History) → Rule c h → Keeps (made_by ch n parent o c).after h
made_keeps ch n parent None c h r = r
made_keeps ch n parent (Some nodes) c h r =
    inits_keep ch n (settle_each ch (numbers_from n (length nodes - length c.nodes)) (record c { nodes = below parent nodes n })) h
    (settle_each_keeps ch (numbers_from n (length nodes - length c.nodes)) (record c { nodes = below parent nodes n }) h r)

make_kind_keeps : (ch : Channel) (kind parent : Option ℕ) (c : Core) (h : History) → Rule c h → Keeps (make_kind ch kind parent c).after h
make_kind_keeps ch None parent c h r = r
make_kind_keeps ch (Some kind) parent c h r = made_keeps ch (length c.nodes + 1) parent (nodes_made ch.plans c.nodes kind 0) c h r

-- ---- all accesses

pub add_keeps : (n : ℕ) (f : Text) (o : Option FieldType) (always : Bool) (c : Core) (h : History) → Rule c h → Keeps (add_field n f o always c).after h
add_keeps n f None always c h r = r
add_keeps n f (Some t) always c h r = r

quiet_keeps : (access : Access) (c : Core) (h : History) → Rule c h → Keeps (quiet access c).after h
quiet_keeps (Make kind) c h r = r
quiet_keeps (Scene kind) c h r = r
quiet_keeps (Get n f) c h r = r
quiet_keeps (Set n f v) c h r = r
quiet_keeps (Has n f) c h r = r
quiet_keeps (Add n f kind always) c h r = add_keeps n f (type_beside type_words kind) always c h r
quiet_keeps (ObserveBy n f function) c h r = r
quiet_keeps (ObserveAt n f port) c h r = r
quiet_keeps (Unobserve n f) c h r = r
quiet_keeps (Append n child) c h r = r
quiet_keeps (Insert n child at) c h r = r
quiet_keeps (Remove n child) c h r = r
quiet_keeps (Create n kind) c h r = r
quiet_keeps (Child n at) c h r = r
quiet_keeps (Count n) c h r = r
quiet_keeps (Parent n) c h r = r
quiet_keeps (Find n id) c h r = r
quiet_keeps (Focus n on) c h r = r
quiet_keeps (HasFocus n) c h r = r
quiet_keeps (InChain n) c h r = r
quiet_keeps (Subtype n) c h r = r
quiet_keeps (CallFunc n name arguments) c h r = r

register_keeps : (b : Bool) (n : ℕ) (f : Text) (to : Target) (c : Core) (h : History) → Rule c h → Keeps (register_if b n f to c).after h
register_keeps true n f to c h r = r
register_keeps false n f to c h r = r

observe_keeps : (ch : Channel) (o : Option ℕ) (n : ℕ) (f name : Text) (c : Core) (h : History) → Rule c h → Keeps (observe_by ch o n f name c).after h
observe_keeps ch None n f name c h r = r
observe_keeps ch (Some home) n f name c h r = register_keeps (if has_field c.nodes n f then is_some (scoped ch.program (home_of (homes_of_actor (actor_at c 0)) home).scope (folded name)) else false) n f (target.Function home name) c h r

unobserve_keeps : (b : Bool) (n : ℕ) (f : Text) (c : Core) (h : History) → Rule c h → Keeps (unobserve b n f c).after h
unobserve_keeps true n f c h r = r
unobserve_keeps false n f c h r = r

interface_keeps : (b : Bool) (ch : Channel) (kind : ℕ) (home : Option ℕ) (name : Text) (arguments : List Tree) (c : Core) (h : History) → Rule c h → Keeps (call_interface b ch kind home name arguments c).after h
interface_keeps true ch kind (Some home) name arguments c h r = r
interface_keeps true ch kind None name arguments c h r = r
interface_keeps false ch kind home name arguments c h r = r

call_func_keeps : (ch : Channel) (kind home : Option ℕ) (name : Text) (arguments : List Tree) (c : Core) (h : History) → Rule c h → Keeps (call_func ch kind home name arguments c).after h
call_func_keeps ch None home name arguments c h r = r
call_func_keeps ch (Some kind) home name arguments c h r = interface_keeps (has_interface ch kind name) ch kind home name arguments c h r

pub effect_keeps : (ch : Channel) (home : Option ℕ) (access : Access) (c : Core) (h : History) → Rule c h → Keeps (effect ch home access c).after h
effect_keeps ch home (Make kind) c h r = make_kind_keeps ch (kind_named ch kind) None c h r
effect_keeps ch home (Scene kind) c h r = make_kind_keeps ch (if_scene ch (kind_named ch kind)) None c h r
effect_keeps ch home (Create n kind) c h r = make_kind_keeps ch (kind_named ch kind) (Some n) c h r
effect_keeps ch home (Set n f v) c h r = by_kind_keeps (is_control ch n f c) ch n f v c h r
effect_keeps ch home (ObserveBy n f function) c h r = observe_keeps ch home n f function c h r
effect_keeps ch home (ObserveAt n f port) c h r = register_keeps (has_field c.nodes n f) n f (target.Port port) c h r
effect_keeps ch home (Unobserve n f) c h r = unobserve_keeps (has_field c.nodes n f) n f c h r
effect_keeps ch home (Focus n on) c h r = r
effect_keeps ch home (HasFocus n) c h r = r
effect_keeps ch home (InChain n) c h r = r
effect_keeps ch home (CallFunc n name arguments) c h r = call_func_keeps ch (kind_of_node ch c.nodes n) (home_of_node c n) name arguments c h r
effect_keeps ch home (Get n f) c h r = r
effect_keeps ch home (Has n f) c h r = r
effect_keeps ch home (Add n f kind always) c h r = add_keeps n f (type_beside type_words kind) always c h r
effect_keeps ch home (Append n child) c h r = r
effect_keeps ch home (Insert n child at) c h r = r
effect_keeps ch home (Remove n child) c h r = r
effect_keeps ch home (Child n at) c h r = r
effect_keeps ch home (Count n) c h r = r
effect_keeps ch home (Parent n) c h r = r
effect_keeps ch home (Find n id) c h r = r
effect_keeps ch home (Subtype n) c h r = r
