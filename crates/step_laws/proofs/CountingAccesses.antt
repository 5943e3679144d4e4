-- What an access leaves within the bounds.
use Rattle.std.specs.Prelude.{◌-◌, slice_get, length, is_some, option_and_then, nat_lt, if◌then◌else◌, codes, ◌≤◌}
use Rattle.chan_values.specs.Tree.{Words, Tree, Leaf}
use Rattle.node_tree.specs.Fields.{after_add, has_field}
use Rattle.node_tree.specs.Family.{inserted, removed, appended}
use Rattle.node_tree.specs.Reach.{reached, render_owned, given}
use Rattle.brs_meaning.specs.Reduction.{home_of}
use Rattle.brs_meaning.specs.Program.{scoped, Function}
use Rattle.brs_meaning.specs.Answering.{Values, Value, state}
use Rattle.world_meaning.specs.Channel.{function_in, Channel, Component, component_at, kind_named, kind_of_node, has_interface, function_at}
use Rattle.world_meaning.specs.Core.{homes_of_actor, Answer, Called, Actor, Core, actor_at, with_agendas, posts_of, home_of_node}
use Rattle.world_meaning.specs.Changing.{text_at, words_of, change, set_of, set_by, set}
use Rattle.world_meaning.specs.Control.{copied_m, set_both, set_control, task_of, start, started_with, run_function, run_component, run_task, stop, stop_task, control, is_control, control_if, set_by_kind, live_task_of}
use Rattle.world_meaning.specs.Making.{numbers_from, below, with_home, m_of, settle_in, settle_kind, settle_each, made_by, make_kind, if_scene}
use Rattle.world_meaning.specs.Accesses.{add_field, quiet, register_if, observe_by, unobserve, call_interface, call_func, effect}
use Rattle.std.proofs.Common.{◌≡◌, ℕ, zero, suc, ◌+◌, Bool, true, false, List, [], ◌∷◌, ◌++◌, Option, Some, None, refl, sym, subst, arith}
use Rattle.std.specs.Str.{bytes_eq}
use Rattle.chan_values.specs.Folded.{folded}
use Rattle.field_types.specs.declared.types.FieldType.{FieldType}
use Rattle.field_types.specs.Words.{type_words, type_beside}
use Rattle.field_observers.specs.declared.target.Target.{Target}
use Rattle.node_tree.specs.declared.node.Node.{Node}
use Rattle.node_tree.specs.declared.answers.SetResult.{SetResult}
use Rattle.node_tree.specs.declared.answers.SetResult.TheVariants.{NoField, NoFit, Same, Changed}
use Rattle.brs_grammar.specs.Form.{Text}
use Rattle.brs_meaning.specs.Request.{Access, Make, Scene, Get, Set, Has, Add, ObserveBy, ObserveAt, Unobserve, Append, Insert, Remove, Create, Child, Count, Parent, Find, Focus, HasFocus, InChain, Subtype, CallFunc}
use Rattle.world_meaning.specs.Ending.{ended, asking_place}
use Rattle.world_meaning.specs.Agendas.{yes}
use Rattle.world_meaning.specs.Effect.{Result, Gives, Raises, Jobs, Calls, Effect, follow, serve}
use Rattle.world_meaning.specs.NodesMade.{nodes_made}
use Rattle.world_meaning.specs.Entries.{state_word}
use Rattle.std.proofs.lemmas.Bool.{ltb-true}
use Rattle.std.proofs.lemmas.List.{length-append}
use Rattle.node_tree.specs.declared.children.Place.TheVariants.{Last}
use Rattle.node_tree.proofs.Stays.{length_add, length_moved, length_inserted, length_removed}
use Rattle.step_laws.specs.Counts.{Within, IsWithin}
use Rattle.step_laws.proofs.CountingPlaces.{length_where, few_made, few_below, with_nodes, same_length, set_within, actor_within, answer_within, refuse_within, settle_within, call_within}
use Rattle.world_meaning.specs.Core as k
use Rattle.field_observers.specs.declared.target.Target.TheVariants as target

module _ (n : ℕ) where
  -- ---- effects of accesses

  follow_within : (o : Result) (c : Core) → IsWithin n c → IsWithin n (follow o c).core
  follow_within (Gives v) c w = answer_within n (Value v) c w
  follow_within (Raises e) c w = refuse_within n e (asking_place c) c w
  follow_within Jobs c w = settle_within n c w
  follow_within (Calls f home arguments) c w = call_within n f home (Values arguments) (with_agendas (Called ∷ c.agendas) c) w

  pub serve_within : (e : Effect) → IsWithin n e.after.core → IsWithin n (serve e).core
  serve_within e w = follow_within e.result e.after.core w

  set_by_within : (o : SetResult) (m : ℕ) (f : Text) (v : Tree) (c : Core) → IsWithin n c → IsWithin n (set_by o m f v c).after.core
  set_by_within NoField m f v c w = w
  set_by_within NoFit m f v c w = w
  set_by_within Same m f v c w = w
  set_by_within Changed m f v c w = set_within n m f v c w

  both_within : (one other : SetResult) (m : ℕ) (word state_word : Tree) (c : Core) → IsWithin n c → IsWithin n (set_both one other m word state_word c).after.core
  both_within Changed Changed m word state_word c w = set_within n m (codes "control") word (change m (codes "state") state_word (Answer (Value yes)) c).core (set_within n m (codes "state") state_word c w)
  both_within Changed NoField m word state_word c w = set_within n m (codes "control") word c w
  both_within Changed NoFit m word state_word c w = set_within n m (codes "control") word c w
  both_within Changed Same m word state_word c w = set_within n m (codes "control") word c w
  both_within NoField Changed m word state_word c w = set_within n m (codes "state") state_word c w
  both_within NoFit Changed m word state_word c w = set_within n m (codes "state") state_word c w
  both_within Same Changed m word state_word c w = set_within n m (codes "state") state_word c w
  both_within NoField NoField m word state_word c w = w
  both_within NoField NoFit m word state_word c w = w
  both_within NoField Same m word state_word c w = w
  both_within NoFit NoField m word state_word c w = w
  both_within NoFit NoFit m word state_word c w = w
  both_within NoFit Same m word state_word c w = w
  both_within Same NoField m word state_word c w = w
  both_within Same NoFit m word state_word c w = w
  both_within Same Same m word state_word c w = w

  control_set_within : (m : ℕ) (word : Tree) (state_word : Text) (c : Core) → IsWithin n c → IsWithin n (set_control m word state_word c).after.core
  control_set_within m word state_word c w = both_within (set_of c m (codes "control") word) (set_of c m (codes "state") (Leaf (Words state_word))) m word (Leaf (Words state_word)) c w

  more_within : (A : List Actor) (y : Actor) (a : ℕ) → y.posts ≡ 0 → posts_of (slice_get A a) ≤ n → posts_of (slice_get (A ++ y ∷ []) a) ≤ n
  more_within [] y zero e h = subst (λ k. k ≤ n) (sym e) (omega arith)
  more_within [] y (suc a) e h = h
  more_within (x ∷ A) y zero e h = h
  more_within (x ∷ A) y (suc a) e h = more_within A y a e h

  start_within : (f : Function) (scope : ℕ) (copy : Tree) (m : ℕ) (c : Core) → nat_lt (length c.actors) 4096 ≡ true → IsWithin n c → IsWithin n (start f scope copy m c).core
  start_within f scope copy m c room w = record {
    few_nodes = w.few_nodes;
    few_ports = w.few_ports;
    few_actors = let a = length-append c.actors (task_of f scope copy m ∷ []) in let b = ltb-true (length c.actors) 4096 room in omega (arith, a, b);
    few_posts = λ a. more_within c.actors (task_of f scope copy m) a refl (w.few_posts a);
  }

  started_within : (o : Option Tree) (room : Bool) (f : Function) (scope m : ℕ) (word : Tree) (c : Core) → nat_lt (length c.actors) 4096 ≡ room → IsWithin n c → IsWithin n (started_with o room f scope m word c).after.core
  started_within None room f scope m word c e w = w
  started_within (Some copy) false f scope m word c e w = w
  started_within (Some copy) true f scope m word c e w = control_set_within m word (codes "run") (start f scope copy m c).core (start_within f scope copy m c e w)

  run_within : (o : Option Function) (scope m : ℕ) (word : Tree) (c : Core) → IsWithin n c → IsWithin n (run_function o scope m word c).after.core
  run_within None scope m word c w = control_set_within m word (codes "stop") c w
  run_within (Some f) scope m word c w = started_within (copied_m c (home_of_node c m)) (nat_lt (length c.actors) 4096) f scope m word c refl w

  component_within : (ch : Channel) (o : Option Component) (m : ℕ) (word : Tree) (c : Core) → IsWithin n c → IsWithin n (run_component ch o m word c).after.core
  component_within ch None m word c w = control_set_within m word (codes "stop") c w
  component_within ch (Some component) m word c w = run_within (function_at ch (function_in ch component (text_at c.nodes m (codes "functionname")))) component.scope m word c w

  task_within : (ch : Channel) (o : Option ℕ) (m : ℕ) (word : Tree) (c : Core) → IsWithin n c → IsWithin n (run_task ch o m word c).after.core
  task_within ch (Some task) m word c w = set_by_within (set_of c m (codes "control") word) m (codes "control") word c w
  task_within ch None m word c w = component_within ch (option_and_then (component_at ch) (kind_of_node ch c.nodes m)) m word c w

  stop_within : (o : Option ℕ) (m : ℕ) (word : Tree) (c : Core) → IsWithin n c → IsWithin n (stop_task o m word c).after.core
  stop_within None m word c w = set_by_within (set_of c m (codes "control") word) m (codes "control") word c w
  stop_within (Some task) m word c w = control_set_within m word (codes "stop") (stop (suc (suc task)) c).core (actor_within n (suc (suc task)) ended c (λ x. refl) w)

  control_within : (ch : Channel) (m : ℕ) (word : Tree) (c : Core) → IsWithin n c → IsWithin n (control ch m word c).after.core
  control_within ch m word c w = by_word (bytes_eq (folded (words_of word)) (codes "run")) (bytes_eq (folded (words_of word)) (codes "stop"))
    where
      by_word : (one other : Bool) → IsWithin n (if one then run_task ch (live_task_of m c) m word c else if other then stop_task (live_task_of m c) m word c else set m (codes "control") word c).after.core
      by_word true other = task_within ch (live_task_of m c) m word c w
      by_word false true = stop_within (live_task_of m c) m word c w
      by_word false false = set_by_within (set_of c m (codes "control") word) m (codes "control") word c w

  control_if_within : (o : SetResult) (ch : Channel) (m : ℕ) (word : Tree) (c : Core) → IsWithin n c → IsWithin n (control_if o ch m word c).after.core
  control_if_within NoField ch m word c w = w
  control_if_within NoFit ch m word c w = w
  control_if_within Same ch m word c w = control_within ch m word c w
  control_if_within Changed ch m word c w = control_within ch m word c w

  by_kind_within : (b : Bool) (ch : Channel) (m : ℕ) (f : Text) (v : Tree) (c : Core) → IsWithin n c → IsWithin n (set_by_kind b ch m f v c).after.core
  by_kind_within true ch m f v c w = control_if_within (set_of c m (codes "control") v) ch m v c w
  by_kind_within false ch m f v c w = set_by_within (set_of c m f v) m f v c w

  -- ---- makings

  settle_in_within : (ch : Channel) (m kind : ℕ) (o : Option Component) (c : Core) → IsWithin n c → IsWithin n (settle_in ch m kind o c)
  settle_in_within ch m kind None c w = w
  settle_in_within ch m kind (Some component) c w = actor_within n 0 (with_home component.scope (m_of m)) c (λ x. refl) w

  settle_kind_within : (ch : Channel) (m : ℕ) (o : Option ℕ) (c : Core) → IsWithin n c → IsWithin n (settle_kind ch m o c)
  settle_kind_within ch m None c w = w
  settle_kind_within ch m (Some kind) c w = settle_in_within ch m kind (component_at ch kind) c w

  settle_each_within : (ch : Channel) (ms : List ℕ) (c : Core) → IsWithin n c → IsWithin n (settle_each ch ms c)
  settle_each_within ch [] c w = w
  settle_each_within ch (m ∷ ms) c w = settle_each_within ch ms (settle_kind ch m (kind_of_node ch c.nodes m) c) (settle_kind_within ch m (kind_of_node ch c.nodes m) c w)

  made_within : (ch : Channel) (m : ℕ) (parent : Option ℕ) (o : Option (List Node)) (c : Core) → ((nodes : List Node) → o ≡ Some nodes → length nodes ≤ 1048576) → IsWithin n c → IsWithin n (made_by ch m parent o c).after.core
  made_within ch m parent None c few w = w
  made_within ch m parent (Some nodes) c few w = settle_each_within ch (numbers_from m (length nodes - length c.nodes)) (record c { nodes = below parent nodes m }) (with_nodes n (below parent nodes m) c (few_below parent nodes m (few nodes refl)) w)

  make_within : (ch : Channel) (kind parent : Option ℕ) (c : Core) → IsWithin n c → IsWithin n (make_kind ch kind parent c).after.core
  make_within ch None parent c w = w
  make_within ch (Some kind) parent c w = made_within ch (length c.nodes + 1) parent (nodes_made ch.plans c.nodes kind 0) c (few_made ch.plans c.nodes kind 0) w

  -- ---- all accesses

  add_within : (m : ℕ) (f : Text) (o : Option FieldType) (always : Bool) (c : Core) → IsWithin n c → IsWithin n (add_field m f o always c).after.core
  add_within m f None always c w = w
  add_within m f (Some t) always c w = same_length n (after_add c.nodes m f t always) c (length_add c.nodes m f t always) w

  pub quiet_within : (access : Access) (c : Core) → IsWithin n c → IsWithin n (quiet access c).after.core
  quiet_within (Make kind) c w = w
  quiet_within (Scene kind) c w = w
  quiet_within (Get m f) c w = w
  quiet_within (Set m f v) c w = w
  quiet_within (Has m f) c w = w
  quiet_within (Add m f kind always) c w = add_within m f (type_beside type_words kind) always c w
  quiet_within (ObserveBy m f function) c w = w
  quiet_within (ObserveAt m f port) c w = w
  quiet_within (Unobserve m f) c w = w
  quiet_within (Append m child) c w = same_length n (appended c.nodes m child) c (length_moved Last c.nodes m child) w
  quiet_within (Insert m child at) c w = same_length n (inserted c.nodes m child at) c (length_inserted c.nodes m child at) w
  quiet_within (Remove m child) c w = same_length n (removed c.nodes m child) c (length_removed c.nodes m child) w
  quiet_within (Create m kind) c w = w
  quiet_within (Child m at) c w = w
  quiet_within (Count m) c w = w
  quiet_within (Parent m) c w = w
  quiet_within (Find m id) c w = w
  quiet_within (Focus m on) c w = w
  quiet_within (HasFocus m) c w = w
  quiet_within (InChain m) c w = w
  quiet_within (Subtype m) c w = w
  quiet_within (CallFunc m name arguments) c w = w

  register_within : (b : Bool) (m : ℕ) (f : Text) (to : Target) (c : Core) → IsWithin n c → IsWithin n (register_if b m f to c).after.core
  register_within true m f to c w = w
  register_within false m f to c w = w

  observe_within : (ch : Channel) (o : Option ℕ) (m : ℕ) (f name : Text) (c : Core) → IsWithin n c → IsWithin n (observe_by ch o m f name c).after.core
  observe_within ch None m f name c w = w
  observe_within ch (Some home) m f name c w = register_within (if has_field c.nodes m f then is_some (scoped ch.program (home_of (homes_of_actor (actor_at c 0)) home).scope (folded name)) else false) m f (target.Function home name) c w

  unobserve_within : (b : Bool) (m : ℕ) (f : Text) (c : Core) → IsWithin n c → IsWithin n (unobserve b m f c).after.core
  unobserve_within true m f c w = w
  unobserve_within false m f c w = w

  interface_within : (b : Bool) (ch : Channel) (kind : ℕ) (home : Option ℕ) (name : Text) (arguments : List Tree) (c : Core) → IsWithin n c → IsWithin n (call_interface b ch kind home name arguments c).after.core
  interface_within true ch kind (Some home) name arguments c w = w
  interface_within true ch kind None name arguments c w = w
  interface_within false ch kind home name arguments c w = w

  call_func_within : (ch : Channel) (kind home : Option ℕ) (name : Text) (arguments : List Tree) (c : Core) → IsWithin n c → IsWithin n (call_func ch kind home name arguments c).after.core
  call_func_within ch None home name arguments c w = w
  call_func_within ch (Some kind) home name arguments c w = interface_within (has_interface ch kind name) ch kind home name arguments c w

  pub effect_within : (ch : Channel) (home : Option ℕ) (access : Access) (c : Core) → IsWithin n c → IsWithin n (effect ch home access c).after.core
  effect_within ch home (Make kind) c w = make_within ch (kind_named ch kind) None c w
  effect_within ch home (Scene kind) c w = make_within ch (if_scene ch (kind_named ch kind)) None c w
  effect_within ch home (Create m kind) c w = make_within ch (kind_named ch kind) (Some m) c w
  effect_within ch home (Set m f v) c w = by_kind_within (is_control ch m f c) ch m f v c w
  effect_within ch home (ObserveBy m f function) c w = observe_within ch home m f function c w
  effect_within ch home (ObserveAt m f port) c w = register_within (has_field c.nodes m f) m f (target.Port port) c w
  effect_within ch home (Unobserve m f) c w = unobserve_within (has_field c.nodes m f) m f c w
  effect_within ch home (Focus m on) c w = w
  effect_within ch home (HasFocus m) c w = w
  effect_within ch home (InChain m) c w = w
  effect_within ch home (CallFunc m name arguments) c w = call_func_within ch (kind_of_node ch c.nodes m) (home_of_node c m) name arguments c w
  effect_within ch home (Get m f) c w = w
  effect_within ch home (Has m f) c w = w
  effect_within ch home (Add m f kind always) c w = add_within m f (type_beside type_words kind) always c w
  effect_within ch home (Append m child) c w = same_length n (appended c.nodes m child) c (length_moved Last c.nodes m child) w
  effect_within ch home (Insert m child at) c w = same_length n (inserted c.nodes m child at) c (length_inserted c.nodes m child at) w
  effect_within ch home (Remove m child) c w = same_length n (removed c.nodes m child) c (length_removed c.nodes m child) w
  effect_within ch home (Child m at) c w = w
  effect_within ch home (Count m) c w = w
  effect_within ch home (Parent m) c w = w
  effect_within ch home (Find m id) c w = w
  effect_within ch home (Subtype m) c w = w

  -- ---- a begun access

  pub given_within : (roots : List ℕ) (c : Core) → IsWithin n c → Within n (given c.nodes roots) c.ports c.actors
  given_within roots c w = same_length n (given c.nodes roots) c (length_where (reached c.nodes roots) render_owned 1 c.nodes) w
