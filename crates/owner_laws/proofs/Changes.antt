-- Counted changes and sets of `control` keep the rule of owners.
use Rattle.std.proofs.Common.{◌≡◌, ℕ, zero, suc, ◌+◌, Bool, true, false, List, [], ◌∷◌, ◌++◌, Option, Some, None, refl, sym, ap, subst, ◌∙◌, length}
use Rattle.std.specs.Prelude.{slice_get, option_map, option_and_then, unwrap_or, nat_lt, codes, if◌then◌else◌}
use Rattle.std.specs.Str.{bytes_eq}
use Rattle.chan_values.specs.Folded.{folded}
use Rattle.chan_values.specs.Tree.{Words, Tree, Leaf}
use Rattle.chan_values.specs.View.{tree_of}
use Rattle.copy_meaning.specs.Laying.{with_tree, value_of_tree}
use Rattle.heap_meaning.specs.Values.{StoreValue}
use Rattle.heap_meaning.specs.Store.{Store}
use Rattle.node_tree.specs.declared.node.Node.{Node}
use Rattle.node_tree.specs.declared.answers.SetResult.{SetResult}
use Rattle.node_tree.specs.declared.answers.SetResult.TheVariants.{NoField, NoFit, Same, Changed}
use Rattle.node_tree.specs.Nodes.{owner_of, with_fields}
use Rattle.node_tree.specs.Fields.{fields_after_set, value_of, after_set}
use Rattle.node_tree.specs.Owned.{Of, OnlyToRender, AreNodesOwned}
use Rattle.node_tree.proofs.Places.{read_with}
use Rattle.node_tree.proofs.Owning.{set_owned, get_owned}
use Rattle.brs_grammar.specs.Form.{Text}
use Rattle.brs_meaning.specs.Program.{Function}
use Rattle.brs_meaning.specs.Locals.{Home}
use Rattle.brs_meaning.specs.Leaving.{leaving}
use Rattle.brs_meaning.specs.Reduction.{home_of, or_none}
use Rattle.brs_meaning.specs.Answering.{State, Reply, Value, Arguments, Values, Put, Done, Refused, put}
use Rattle.brs_meaning.specs.NodeLaws.{CallOnTopNames}
use Rattle.brs_meaning.specs.Nodes.{Each, IfSome, TreeNames, ValueNames, MessageNames, StoreNames, HomesName, StateNames, ArgumentsName, PutNames}
use Rattle.world_meaning.specs.Channel.{Channel, Component, function_at, function_in, component_at, kind_of_node}
use Rattle.world_meaning.specs.Core as k
use Rattle.world_meaning.specs.Core.{names, only, without_posts, name_of, is_post_of, Entry, KeyEntry, AccessEntry, LastEntry, Next, Answer, Another, EntryEnd, Deliveries, Actor, Core, Moved, actor_at, with_agendas, home_of_node, store_of_actor, homes_of_actor}
use Rattle.world_meaning.specs.Ending.{end_actor}
use Rattle.world_meaning.specs.Agendas.{invalid, yes}
use Rattle.world_meaning.specs.Effect.{Result, Gives, Raises, Jobs, Calls, Effect}
use Rattle.world_meaning.specs.Changing.{value_at, text_at, words_of, observers_of, message_of, change, set_of, set_by, set}
use Rattle.world_meaning.specs.Control.{live_task_of, set_both, set_control, first_state, started, task_of, copied_m, start, started_with, run_function, run_component, run_task, stop, stop_task, control, control_if, is_control, set_by_kind, set_field}
use Rattle.world_meaning.specs.Entries.{state_word, none_later, last_of, set_state_by, set_state}
use Rattle.owner_laws.specs.Owners.{IsActorOwned, IsEntryOwned, IsNextOwned, Owners}
use Rattle.owner_laws.proofs.Naming.{tree_more, each_get, some_to}
use Rattle.owner_laws.proofs.Copies.{left_names, with_tree_names, value_of_tree_names}
use Rattle.owner_laws.proofs.Values.{tree_list, list_tree, payload_names}
use Rattle.owner_laws.proofs.Places.{of_render, render_is, of_more, same_owners, put_owned, nodes_change, with_jobs, with_inbox, with_actor}
use Rattle.owner_laws.proofs.Jobs.{first_store, first_homes, ended_owned}

-- ---- values of fields

pub value_owned : (a n : ℕ) (f : Text) (nodes : List Node) → AreNodesOwned nodes → Of a nodes n → TreeNames (Of a nodes) (value_at nodes n f)
value_owned a n f nodes h o = go (value_of nodes n f) refl
  where
    go : (p : Option Tree) → value_of nodes n f ≡ p → TreeNames (Of a nodes) (unwrap_or p invalid)
    go None e = tt
    go (Some v) e = list_tree (Of a nodes) v (get_owned a n f v nodes o e h)

pub set_to_render : (nodes : List Node) (n : ℕ) (f : Text) (v : Tree) → OnlyToRender nodes (after_set nodes n f v)
set_to_render nodes n f v = same_owners nodes (after_set nodes n f v) (λ i. read_with (option_map (λ x. x.owner)) (with_fields (fields_after_set f v)) (λ x. refl) nodes n i)

pub set_change : (a n : ℕ) (f : Text) (v : Tree) (c : Core) → owner_of c.nodes n ≡ Some a → TreeNames (Of a c.nodes) v → Owners c → Owners (record c { nodes = after_set c.nodes n f v })
set_change a n f v c own h r = nodes_change c (after_set c.nodes n f v) (set_to_render c.nodes n f v) (set_owned a n f v c.nodes own (tree_list (Of a c.nodes) v h) r.kin_and_fields) r

-- ---- what an access of actor 0 leaves

abbrev pub ResultNames : (ℕ → Type 0) → Result → Type 0
ResultNames S (Gives v) = TreeNames S v
ResultNames S (Raises e) = Unit {0}
ResultNames S Jobs = Unit {0}
ResultNames S (Calls f home arguments) = Each (TreeNames S) arguments

pub record IsEffectOwned (a : ℕ) (e : Effect) : Type 0 where
  pub after : Owners e.after.core
  pub result : ResultNames (Of a e.after.core.nodes) e.result

message_owned : (n : ℕ) (f : Text) (nodes : List Node) → AreNodesOwned nodes → Of 0 nodes n → MessageNames (Of 0 nodes) (message_of nodes n f)
message_owned n f nodes h o = (o, payload_names (Of 0 nodes) (value_at nodes n f) (value_owned 0 n f nodes h o))

-- what follows a change and names no node
abbrev pub IsPlainNext : Next → Type 0
IsPlainNext next = (nodes : List Node) → IsNextOwned nodes next

pub change_owned : (n : ℕ) (f : Text) (v : Tree) (next : Next) (c : Core) → IsPlainNext next → Of 0 c.nodes n → TreeNames (Of 0 c.nodes) v → Owners c → Owners (change n f v next c).core
change_owned n f v next c plain o h r =
    let after : List Node = after_set c.nodes n f v in
    let g : OnlyToRender c.nodes after = set_to_render c.nodes n f v in
    let s : Owners (record c { nodes = after }) = set_change 0 n f v c (render_is c.nodes n o) h r in
    with_jobs (record c { nodes = after }) (Deliveries false (message_of after n f) (observers_of c n f) next ∷ c.agendas)
    ((message_owned n f after s.kin_and_fields (of_more c.nodes after g 0 n o), plain after), s.jobs) s

pub still_render : (n : ℕ) (f : Text) (v : Tree) (next : Next) (c : Core) (m : ℕ) → Of 0 c.nodes m → Of 0 (change n f v next c).core.nodes m
still_render n f v next c m o = of_more c.nodes (after_set c.nodes n f v) (set_to_render c.nodes n f v) 0 m o

pub set_by_owned : (x : SetResult) (n : ℕ) (f : Text) (v : Tree) (c : Core) → Of 0 c.nodes n → TreeNames (Of 0 c.nodes) v → Owners c → IsEffectOwned 0 (set_by x n f v c)
set_by_owned NoField n f v c o h r = record { after = r; result = tt }
set_by_owned NoFit n f v c o h r = record { after = r; result = tt }
set_by_owned Same n f v c o h r = record { after = r; result = tt }
set_by_owned Changed n f v c o h r = record { after = change_owned n f v (Answer (Value yes)) c (λ nodes. tt) o h r; result = tt }

-- ---- control and state together

word_owned : (n : ℕ) (f : Text) (word : Tree) (c : Core) → Of 0 c.nodes n → TreeNames (Of 0 c.nodes) word → Owners c → Owners (change n f word (Answer (Value yes)) c).core
word_owned n f word c o h r = change_owned n f word (Answer (Value yes)) c (λ nodes. tt) o h r

both_owned : (x y : SetResult) (n : ℕ) (word : Tree) (state : Text) (c : Core) → Of 0 c.nodes n → TreeNames (Of 0 c.nodes) word → Owners c → IsEffectOwned 0 (set_both x y n word (Leaf (Words state)) c)
both_owned Changed Changed n word state c o h r =
    let g : OnlyToRender c.nodes (after_set c.nodes n (codes "state") (Leaf (Words state))) = set_to_render c.nodes n (codes "state") (Leaf (Words state)) in
    let between : Core = (change n (codes "state") (Leaf (Words state)) (Answer (Value yes)) c).core in
    record {
      after = change_owned n (codes "control") word Another between (λ nodes. tt) (still_render n (codes "state") (Leaf (Words state)) (Answer (Value yes)) c n o)
          (tree_more (Of 0 c.nodes) (Of 0 between.nodes) (of_more c.nodes between.nodes g 0) word h) (word_owned n (codes "state") (Leaf (Words state)) c o tt r);
      result = tt;
    }
both_owned Changed NoField n word state c o h r = record { after = word_owned n (codes "control") word c o h r; result = tt }
both_owned Changed NoFit n word state c o h r = record { after = word_owned n (codes "control") word c o h r; result = tt }
both_owned Changed Same n word state c o h r = record { after = word_owned n (codes "control") word c o h r; result = tt }
both_owned NoField Changed n word state c o h r = record { after = word_owned n (codes "state") (Leaf (Words state)) c o tt r; result = tt }
both_owned NoFit Changed n word state c o h r = record { after = word_owned n (codes "state") (Leaf (Words state)) c o tt r; result = tt }
both_owned Same Changed n word state c o h r = record { after = word_owned n (codes "state") (Leaf (Words state)) c o tt r; result = tt }
both_owned NoField NoField n word state c o h r = record { after = r; result = tt }
both_owned NoField NoFit n word state c o h r = record { after = r; result = tt }
both_owned NoField Same n word state c o h r = record { after = r; result = tt }
both_owned NoFit NoField n word state c o h r = record { after = r; result = tt }
both_owned NoFit NoFit n word state c o h r = record { after = r; result = tt }
both_owned NoFit Same n word state c o h r = record { after = r; result = tt }
both_owned Same NoField n word state c o h r = record { after = r; result = tt }
both_owned Same NoFit n word state c o h r = record { after = r; result = tt }
both_owned Same Same n word state c o h r = record { after = r; result = tt }

control_set_owned : (n : ℕ) (word : Tree) (state : Text) (c : Core) → Of 0 c.nodes n → TreeNames (Of 0 c.nodes) word → Owners c → IsEffectOwned 0 (set_control n word state c)
control_set_owned n word state c o h r = both_owned (set_of c n (codes "control") word) (set_of c n (codes "state") (Leaf (Words state))) n word state c o h r

-- ---- stops

kept_entries : (nodes : List Node) (a : ℕ) (inbox : List Entry) → Each (IsEntryOwned nodes) inbox → Each (IsEntryOwned nodes) (without_posts a inbox)
kept_entries nodes a [] h = tt
kept_entries nodes a (e ∷ es) h = go (is_post_of a (name_of e)) (kept_entries nodes a es h.1)
  where
    go : (b : Bool) → Each (IsEntryOwned nodes) (without_posts a es) → Each (IsEntryOwned nodes) (if b then without_posts a es else e ∷ without_posts a es)
    go true rest = rest
    go false rest = (h.0, rest)

stop_owned : (a : ℕ) (c : Core) → Owners c → Owners (stop a c).core
stop_owned a c r = with_inbox (end_actor a c) (without_posts a c.inbox) (kept_entries c.nodes a c.inbox r.entries) (ended_owned c a r)

-- ---- a task's last entry

-- the last actor that a task node started
last_owned : (P : ℕ → Type 0) (actors : List Actor) (a : ℕ) → ((i : ℕ) → IfSome (λ x. IfSome P x.node) (slice_get actors i)) → IfSome P (last_of actors a)
last_owned P [] a h = tt
last_owned P (x ∷ xs) zero h = go x.node (h zero)
  where
    by_later : (n : ℕ) (b : Bool) → P n → IfSome P (if b then Some n else None)
    by_later n true p = p
    by_later n false p = tt

    go : (o : Option ℕ) → IfSome P o → IfSome P (elim o [ None ↦ None | Some n ↦ if none_later n xs then Some n else None ])
    go None p = tt
    go (Some n) p = by_later n (none_later n xs) p
last_owned P (x ∷ xs) (suc a) h = last_owned P xs a (λ i. h (suc i))

pub last_task : (a : ℕ) (c : Core) → Owners c → IfSome (Of 0 c.nodes) (last_of c.actors a)
last_task a c r = last_owned (Of 0 c.nodes) c.actors a (λ i. some_to (IsActorOwned c.nodes i) (λ x. IfSome (Of 0 c.nodes) x.node) (λ x h. h.task) (slice_get c.actors i) (r.actor i))

state_by_owned : (x : SetResult) (n : ℕ) (v : Tree) (c : Core) → Of 0 c.nodes n → TreeNames (Of 0 c.nodes) v → Owners c → IsEffectOwned 0 (set_state_by x n v c)
state_by_owned NoField n v c o h r = record { after = r; result = tt }
state_by_owned NoFit n v c o h r = record { after = r; result = tt }
state_by_owned Same n v c o h r = record { after = r; result = tt }
state_by_owned Changed n v c o h r = record { after = change_owned n (codes "state") v EntryEnd c (λ nodes. tt) o h r; result = tt }

pub set_state_owned : (o : Option ℕ) (returned : Bool) (c : Core) → IfSome (Of 0 c.nodes) o → Owners c → IsEffectOwned 0 (set_state o returned c)
set_state_owned None returned c h r = record { after = r; result = tt }
set_state_owned (Some n) returned c h r = state_by_owned (set_of c n (codes "state") (Leaf (Words (state_word returned)))) n (Leaf (Words (state_word returned))) c h tt r

-- ---- starts

-- the `m` of a home of actor 0
home_owned : (S : ℕ → Type 0) (homes : List Home) (home : ℕ) → HomesName S homes → ValueNames S (home_of homes home).m
home_owned S homes home h = go (slice_get homes home) (each_get (λ x. ValueNames S x.m) homes home h)
  where
    go : (o : Option Home) → IfSome (λ x. ValueNames S x.m) o → ValueNames S (or_none o).m
    go None k = tt
    go (Some x) k = k

copied_owned : (c : Core) (home : Option ℕ) → Owners c → IfSome (TreeNames (Of 0 c.nodes)) (copied_m c home)
copied_owned c None r = tt
copied_owned c (Some home) r = left_names (Of 0 c.nodes) (store_of_actor (actor_at c 0)) (home_of (homes_of_actor (actor_at c 0)) home).m (first_store c r) (home_owned (Of 0 c.nodes) (homes_of_actor (actor_at c 0)) home (first_homes c r))

first_state_names : (S : ℕ → Type 0) (f : Function) (m : StoreValue) (store : Store) (p : Put) → ValueNames S m → StoreNames S store → PutNames S p → StateNames S (first_state f m store p)
first_state_names S f m store (Done s) h k q = q
first_state_names S f m store (Refused e) h k q = (((h, tt), tt, tt, tt), k)

pub started_owned : CallOnTopNames → (nodes : List Node) (a : ℕ) (f : Function) (scope : ℕ) (m : StoreValue) (store : Store) (arguments : Arguments) (node : Option ℕ) → ((S : ℕ → Type 0) → ArgumentsName S arguments) → ValueNames (Of a nodes) m → StoreNames (Of a nodes) store → IfSome (Of 0 nodes) node → IsActorOwned nodes a (started f scope m store arguments node)
started_owned on_top nodes a f scope m store arguments node plain h s task =
    let homes : List Home = record { scope = scope; m = m } ∷ [] in
    let names : StateNames (Of a nodes) (first_state f m store (put f 0 homes arguments [] store)) = first_state_names (Of a nodes) f m store (put f 0 homes arguments [] store) h s (put_owned a nodes on_top f 0 homes arguments [] store (plain (Of a nodes)) (h, tt) tt s) in
    record { calls = names.0; store = names.1; homes = (h, tt); task = task }

task_owned : CallOnTopNames → (c : Core) (f : Function) (scope : ℕ) (copy : Tree) (n a : ℕ) → Of 0 c.nodes n → TreeNames (Of 0 c.nodes) copy → IsActorOwned c.nodes a (task_of f scope copy n)
task_owned on_top c f scope copy n a o h =
    let names : TreeNames (Of a c.nodes) copy = tree_more (Of 0 c.nodes) (Of a c.nodes) (of_render a c.nodes) copy h in
    started_owned on_top c.nodes a f scope (value_of_tree [] copy) (with_tree [] copy) (Values []) (Some n) (λ S. tt) (value_of_tree_names (Of a c.nodes) [] copy names) (with_tree_names (Of a c.nodes) [] copy tt names) o

start_owned : CallOnTopNames → (f : Function) (scope : ℕ) (copy : Tree) (n : ℕ) (c : Core) → Of 0 c.nodes n → TreeNames (Of 0 c.nodes) copy → Owners c → Owners (start f scope copy n c).core
start_owned on_top f scope copy n c o h r = with_actor c (task_of f scope copy n) (λ a. task_owned on_top c f scope copy n a o h) r

-- ---- a set of `control`

module _ (on_top : CallOnTopNames) where
  started_with_owned : (x : Option Tree) (room : Bool) (f : Function) (scope n : ℕ) (word : Tree) (c : Core) → IfSome (TreeNames (Of 0 c.nodes)) x → Of 0 c.nodes n → TreeNames (Of 0 c.nodes) word → Owners c → IsEffectOwned 0 (started_with x room f scope n word c)
  started_with_owned None room f scope n word c k o h r = record { after = r; result = tt }
  started_with_owned (Some copy) false f scope n word c k o h r = record { after = r; result = tt }
  started_with_owned (Some copy) true f scope n word c k o h r =
      let s : IsEffectOwned 0 (set_control n word (codes "run") (start f scope copy n c).core) = control_set_owned n word (codes "run") (start f scope copy n c).core o h (start_owned on_top f scope copy n c o k r) in
      record { after = s.after; result = s.result }

  run_owned : (x : Option Function) (scope n : ℕ) (word : Tree) (c : Core) → Of 0 c.nodes n → TreeNames (Of 0 c.nodes) word → Owners c → IsEffectOwned 0 (run_function x scope n word c)
  run_owned None scope n word c o h r = control_set_owned n word (codes "stop") c o h r
  run_owned (Some f) scope n word c o h r = started_with_owned (copied_m c (home_of_node c n)) (nat_lt (length c.actors) 4096) f scope n word c (copied_owned c (home_of_node c n) r) o h r

  component_owned : (ch : Channel) (x : Option Component) (n : ℕ) (word : Tree) (c : Core) → Of 0 c.nodes n → TreeNames (Of 0 c.nodes) word → Owners c → IsEffectOwned 0 (run_component ch x n word c)
  component_owned ch None n word c o h r = control_set_owned n word (codes "stop") c o h r
  component_owned ch (Some component) n word c o h r = run_owned (function_at ch (function_in ch component (text_at c.nodes n (codes "functionname")))) component.scope n word c o h r

  run_task_owned : (ch : Channel) (x : Option ℕ) (n : ℕ) (word : Tree) (c : Core) → Of 0 c.nodes n → TreeNames (Of 0 c.nodes) word → Owners c → IsEffectOwned 0 (run_task ch x n word c)
  run_task_owned ch (Some task) n word c o h r = set_by_owned (set_of c n (codes "control") word) n (codes "control") word c o h r
  run_task_owned ch None n word c o h r = component_owned ch (option_and_then (component_at ch) (kind_of_node ch c.nodes n)) n word c o h r

  stop_task_owned : (x : Option ℕ) (n : ℕ) (word : Tree) (c : Core) → Of 0 c.nodes n → TreeNames (Of 0 c.nodes) word → Owners c → IsEffectOwned 0 (stop_task x n word c)
  stop_task_owned None n word c o h r = set_by_owned (set_of c n (codes "control") word) n (codes "control") word c o h r
  stop_task_owned (Some task) n word c o h r =
      let s : IsEffectOwned 0 (set_control n word (codes "stop") (stop (suc (suc task)) c).core) = control_set_owned n word (codes "stop") (stop (suc (suc task)) c).core o h (stop_owned (suc (suc task)) c r) in
      record { after = s.after; result = s.result }

  control_owned : (ch : Channel) (n : ℕ) (word : Tree) (c : Core) → Of 0 c.nodes n → TreeNames (Of 0 c.nodes) word → Owners c → IsEffectOwned 0 (control ch n word c)
  control_owned ch n word c o h r = by_word (bytes_eq (folded (words_of word)) (codes "run")) (bytes_eq (folded (words_of word)) (codes "stop"))
    where
      by_word : (one other : Bool) → IsEffectOwned 0 (if one then run_task ch (live_task_of n c) n word c else if other then stop_task (live_task_of n c) n word c else set n (codes "control") word c)
      by_word true other = run_task_owned ch (live_task_of n c) n word c o h r
      by_word false true = stop_task_owned (live_task_of n c) n word c o h r
      by_word false false = set_by_owned (set_of c n (codes "control") word) n (codes "control") word c o h r

  control_if_owned : (x : SetResult) (ch : Channel) (n : ℕ) (word : Tree) (c : Core) → Of 0 c.nodes n → TreeNames (Of 0 c.nodes) word → Owners c → IsEffectOwned 0 (control_if x ch n word c)
  control_if_owned NoField ch n word c o h r = record { after = r; result = tt }
  control_if_owned NoFit ch n word c o h r = record { after = r; result = tt }
  control_if_owned Same ch n word c o h r = control_owned ch n word c o h r
  control_if_owned Changed ch n word c o h r = control_owned ch n word c o h r

  by_kind_owned : (b : Bool) (ch : Channel) (n : ℕ) (f : Text) (v : Tree) (c : Core) → Of 0 c.nodes n → TreeNames (Of 0 c.nodes) v → Owners c → IsEffectOwned 0 (set_by_kind b ch n f v c)
  by_kind_owned true ch n f v c o h r = control_if_owned (set_of c n (codes "control") v) ch n v c o h r
  by_kind_owned false ch n f v c o h r = set_by_owned (set_of c n f v) n f v c o h r

  pub set_field_owned : (ch : Channel) (n : ℕ) (f : Text) (v : Tree) (c : Core) → Of 0 c.nodes n → TreeNames (Of 0 c.nodes) v → Owners c → IsEffectOwned 0 (set_field ch n f v c)
  set_field_owned ch n f v c o h r = by_kind_owned (is_control ch n f c) ch n f v c o h r
