-- Task nodes: what a set of `control` starts and stops.
use Rattle.std.specs.Prelude.{ℕ, suc, Bool, true, false, ◌&&◌, ◌==◌, List, [], ◌∷◌, ◌++◌, length, map, drop, position, Option, Some, None, option_and_then, codes, nat_lt, if◌then◌else◌}
use Rattle.std.specs.Str.{bytes_eq}
use Rattle.chan_values.specs.Folded.{folded}
use Rattle.chan_values.specs.declared.error_code.ErrorCode.TheVariants.{E9, E11}
use Rattle.chan_values.specs.Tree.{Words, Tree, Leaf}
use Rattle.copy_meaning.specs.Laying.{with_tree, value_of_tree}
use Rattle.heap_meaning.specs.Values.{StoreValue}
use Rattle.heap_meaning.specs.Store.{Store}
use Rattle.node_tree.specs.declared.answers.SetResult.{SetResult}
use Rattle.node_tree.specs.declared.answers.SetResult.TheVariants.{NoField, NoFit, Changed}
use Rattle.brs_grammar.specs.Form.{Text}
use Rattle.brs_meaning.specs.Program.{Function}
use Rattle.brs_meaning.specs.Locals.{Home}
use Rattle.brs_meaning.specs.Leaving.{leaving}
use Rattle.brs_meaning.specs.Running.{OnTop, AtFailure, Works}
use Rattle.brs_meaning.specs.Reduction.{home_of}
use Rattle.brs_meaning.specs.Answering.{State, state, Value, Arguments, Values, Put, Done, Refused, put}
use Rattle.world_meaning.specs.Channel.{Channel, Component, function_at, function_in, component_at, kind_of_node, node_extends}
use Rattle.world_meaning.specs.Labels.{Starts, Stops, Drops}
use Rattle.world_meaning.specs.Core.{names, only, without_posts, Answer, Another, Actor, Core, Moved, moved, followed, actor_at, home_of_node, store_of_actor, homes_of_actor}
use Rattle.world_meaning.specs.Ending.{end_actor}
use Rattle.world_meaning.specs.Agendas.{yes}
use Rattle.world_meaning.specs.Effect.{Jobs, Effect, tells, raises}
use Rattle.world_meaning.specs.Changing.{text_at, words_of, change, set_of, set}

-- ---- who runs for a task node

abbrev pub is_of_node : (node : ℕ) → Actor → Bool
is_of_node n x = elim x.node [ None ↦ false | Some m ↦ m == n ]

-- the task that a node started and that hasn't ended, by its place among the tasks: these are the actors from 2 on
abbrev pub live_task_of : (node : ℕ) → Core → Option ℕ
live_task_of n c = position (λ x. x.live && is_of_node n x) (drop 2 c.actors)

-- ---- the change of control, and that of state with it

-- both fields are set; the deliveries of control come first, then those of state, then the answer
abbrev pub set_both : (of_control of_state : SetResult) → (node : ℕ) → (word : Tree) → (state_word : Tree) → Core → Effect
set_both Changed Changed n word state_word c =
    record { after = followed (change n (codes "state") state_word (Answer (Value yes)) c) (change n (codes "control") word Another); result = Jobs }
set_both Changed _ n word state_word c = record { after = change n (codes "control") word (Answer (Value yes)) c; result = Jobs }
set_both _ Changed n word state_word c = record { after = change n (codes "state") state_word (Answer (Value yes)) c; result = Jobs }
set_both _ _ n word state_word c = tells true c

abbrev pub set_control : (node : ℕ) → (word : Tree) → (state_word : Text) → Core → Effect
set_control n word state_word c =
    set_both (set_of c n (codes "control") word) (set_of c n (codes "state") (Leaf (Words state_word))) n word (Leaf (Words state_word)) c

-- something happened before the fields are set
abbrev pub and_set : Moved → (Core → Effect) → Effect
and_set m f = record { after = followed m (λ c. (f c).after); result = (f m.core).result }

-- ---- RUN

-- an actor whose first function can't be called raises that error in its first step, at the function's heading
abbrev pub first_state : Function → StoreValue → Store → Put → State
first_state f m store (Done s) = s
first_state f m store (Refused e) = state (Works (record { kind = OnTop; function = f; home = 0; m = m; locals = [] }) (AtFailure e f.heading) [] []) store

-- an actor that begins with a call of a function in its one home
abbrev pub started : Function → (scope : ℕ) → (m : StoreValue) → Store → Arguments → (node : Option ℕ) → Actor
started f scope m store arguments node =
    let homes : List Home = record { scope = scope; m = m } ∷ [] in
    let s : State = first_state f m store (put f 0 homes arguments [] store) in
    record { tree = s.tree; store = s.store; homes = homes; posts = 0; live = true; node = node }

-- a task gets a copy of its node's `m` in a store of its own
abbrev pub task_of : Function → (scope : ℕ) → (m : Tree) → (node : ℕ) → Actor
task_of f scope m n = started f scope (value_of_tree [] m) (with_tree [] m) (Values []) (Some n)

-- the `m` of a home of actor 0, or None where it can't be unfolded
abbrev pub copied_m : Core → (home : Option ℕ) → Option Tree
copied_m c None = None
copied_m c (Some home) = leaving (store_of_actor (actor_at c 0)) (home_of (homes_of_actor (actor_at c 0)) home).m

-- the most actors of a run
abbrev pub most_actors : ℕ
most_actors = 4096

abbrev pub start : Function → (scope : ℕ) → (m : Tree) → (node : ℕ) → Core → Moved
start f scope m n c = moved (record c { actors = c.actors ++ task_of f scope m n ∷ [] }) (Starts (length c.actors) n ∷ [])

-- the copy of `m` comes first, then the number of actors
abbrev pub started_with : Option Tree → (room : Bool) → Function → (scope : ℕ) → (node : ℕ) → (word : Tree) → Core → Effect
started_with None room f scope n word c = raises E9 c
started_with (Some m) false f scope n word c = raises E11 c
started_with (Some m) true f scope n word c = and_set (start f scope m n c) (set_control n word (codes "run"))

-- where the scope of the node's kind has no such function, nothing starts
abbrev pub run_function : Option Function → (scope : ℕ) → (node : ℕ) → (word : Tree) → Core → Effect
run_function None scope n word c = set_control n word (codes "stop") c
run_function (Some f) scope n word c = started_with (copied_m c (home_of_node c n)) (nat_lt (length c.actors) most_actors) f scope n word c

abbrev pub run_component : Channel → Option Component → (node : ℕ) → (word : Tree) → Core → Effect
run_component ch None n word c = set_control n word (codes "stop") c
run_component ch (Some component) n word c =
    run_function (function_at ch (function_in ch component (text_at c.nodes n (codes "functionname")))) component.scope n word c

-- with a live task only control is set
abbrev pub run_task : Channel → (live : Option ℕ) → (node : ℕ) → (word : Tree) → Core → Effect
run_task ch (Some task) n word c = set n (codes "control") word c
run_task ch None n word c = run_component ch (option_and_then (component_at ch) (kind_of_node ch c.nodes n)) n word c

-- ---- STOP

-- the actor ends, and its entry that hasn't begun is dropped
abbrev pub stop : ℕ → Core → Moved
stop a c = moved (record (end_actor a c) { inbox = without_posts a c.inbox }) (Stops a ∷ map (Drops a) (only a (names c.inbox)))

abbrev pub stop_task : (live : Option ℕ) → (node : ℕ) → (word : Tree) → Core → Effect
stop_task None n word c = set n (codes "control") word c
stop_task (Some task) n word c = and_set (stop (suc (suc task)) c) (set_control n word (codes "stop"))

-- ---- a set of `control`

-- RUN and STOP are read in any case of their letters; any other word is only set
abbrev pub control : Channel → (node : ℕ) → (word : Tree) → Core → Effect
control ch n word c =
    if bytes_eq (folded (words_of word)) (codes "run") then run_task ch (live_task_of n c) n word c
    else if bytes_eq (folded (words_of word)) (codes "stop") then stop_task (live_task_of n c) n word c
    else set n (codes "control") word c

-- whether a set is one of the field `control` of a task node
abbrev pub is_control : Channel → (node : ℕ) → Text → Core → Bool
is_control ch n f c = bytes_eq (folded f) (codes "control") && node_extends ch c.nodes n (codes "Task")

abbrev pub control_if : (fits : SetResult) → Channel → (node : ℕ) → (word : Tree) → Core → Effect
control_if NoField ch n word c = tells false c
control_if NoFit ch n word c = tells false c
control_if _ ch n word c = control ch n word c

abbrev pub set_by_kind : (is_control : Bool) → Channel → (node : ℕ) → Text → Tree → Core → Effect
set_by_kind true ch n f v c = control_if (set_of c n (codes "control") v) ch n v c
set_by_kind false ch n f v c = set n f v c

-- a set by actor 0, or by an entry
abbrev pub set_field : Channel → (node : ℕ) → Text → Tree → Core → Effect
set_field ch n f v c = set_by_kind (is_control ch n f c) ch n f v c
