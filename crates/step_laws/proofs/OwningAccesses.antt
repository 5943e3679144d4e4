-- An owner changes only to render: what an access does.
use Rattle.std.specs.Prelude.{◌-◌, length, is_some, option_and_then, nat_lt, if◌then◌else◌, codes, option_map}
use Rattle.chan_values.specs.Tree.{Words, Tree, Leaf}
use Rattle.node_tree.specs.Fields.{after_add, has_field}
use Rattle.node_tree.specs.Family.{inserted, removed, appended}
use Rattle.node_tree.specs.Reach.{given}
use Rattle.brs_meaning.specs.Reduction.{home_of}
use Rattle.brs_meaning.specs.Program.{scoped, Function}
use Rattle.brs_meaning.specs.Answering.{Values, Value, state}
use Rattle.world_meaning.specs.Channel.{function_in, Channel, Component, component_at, kind_named, kind_of_node, has_interface, function_at}
use Rattle.world_meaning.specs.Core.{homes_of_actor, Answer, Called, Core, actor_at, with_agendas, home_of_node}
use Rattle.world_meaning.specs.Changing.{text_at, words_of, change, set_of, set_by, set}
use Rattle.world_meaning.specs.Control.{copied_m, set_both, set_control, start, started_with, run_function, run_component, run_task, stop, stop_task, control, is_control, control_if, set_by_kind, live_task_of}
use Rattle.world_meaning.specs.Making.{numbers_from, below, with_home, m_of, settle_in, settle_kind, settle_each, made_by, make_kind, if_scene}
use Rattle.world_meaning.specs.Accesses.{add_field, quiet, register_if, observe_by, unobserve, call_interface, call_func, effect}
use Rattle.std.proofs.Common.{◌≡◌, ℕ, suc, ◌+◌, Bool, true, false, List, [], ◌∷◌, Option, Some, None, refl}
use Rattle.std.specs.Str.{bytes_eq}
use Rattle.chan_values.specs.Folded.{folded}
use Rattle.field_types.specs.declared.types.FieldType.{FieldType}
use Rattle.field_types.specs.Words.{type_words, type_beside}
use Rattle.field_observers.specs.declared.target.Target.{Target}
use Rattle.node_tree.specs.declared.node.Node.{Node}
use Rattle.node_tree.specs.declared.answers.SetResult.{SetResult}
use Rattle.node_tree.specs.declared.answers.SetResult.TheVariants.{NoField, NoFit, Same, Changed}
use Rattle.brs_grammar.specs.Form.{Text}
use Rattle.brs_meaning.specs.Request.{Access, Make, Scene, Get, Set, Has, Add, ObserveBy, ObserveAt, Unobserve, Append, Insert, Remove, Create, Child, Count, Parent, Find, Focus, HasFocus, InChain, Subtype, CallFunc}
use Rattle.world_meaning.specs.Ending.{ended, asking_place}
use Rattle.world_meaning.specs.Agendas.{yes}
use Rattle.world_meaning.specs.Effect.{Result, Gives, Raises, Jobs, Calls, Effect, follow, serve}
use Rattle.world_meaning.specs.NodesMade.{nodes_made}
use Rattle.world_meaning.specs.Entries.{state_word}
use Rattle.node_tree.specs.declared.children.Place.TheVariants.{Last}
use Rattle.field_observers.specs.declared.target.Target.TheVariants as target
use Rattle.step_laws.proofs.OwningPlaces.{Since, actor_since, answer_since, below_nodes, call_since, given_nodes, made_nodes, refuse_since, same_owners, set_since, settle_since}
use Rattle.node_tree.specs.Owned.{OnlyToRender}
use Rattle.node_tree.proofs.Stays.{stays_at_add, owner_moved, owner_inserted, owner_removed}

module _ (base : List Node) where
  -- ---- effects of accesses

  follow_since : (o : Result) (c : Core) → Since base c → Since base (follow o c).core
  follow_since (Gives v) c w = answer_since base (Value v) c w
  follow_since (Raises e) c w = refuse_since base e (asking_place c) c w
  follow_since Jobs c w = settle_since base c w
  follow_since (Calls f home arguments) c w = call_since base f home (Values arguments) (with_agendas (Called ∷ c.agendas) c) w

  pub serve_since : (e : Effect) → Since base e.after.core → Since base (serve e).core
  serve_since e w = follow_since e.result e.after.core w

  set_by_since : (o : SetResult) (m : ℕ) (f : Text) (v : Tree) (c : Core) → Since base c → Since base (set_by o m f v c).after.core
  set_by_since NoField m f v c w = w
  set_by_since NoFit m f v c w = w
  set_by_since Same m f v c w = w
  set_by_since Changed m f v c w = set_since base m f v c w

  both_since : (one other : SetResult) (m : ℕ) (word state_word : Tree) (c : Core) → Since base c → Since base (set_both one other m word state_word c).after.core
  both_since Changed Changed m word state_word c w = set_since base m (codes "control") word (change m (codes "state") state_word (Answer (Value yes)) c).core (set_since base m (codes "state") state_word c w)
  both_since Changed NoField m word state_word c w = set_since base m (codes "control") word c w
  both_since Changed NoFit m word state_word c w = set_since base m (codes "control") word c w
  both_since Changed Same m word state_word c w = set_since base m (codes "control") word c w
  both_since NoField Changed m word state_word c w = set_since base m (codes "state") state_word c w
  both_since NoFit Changed m word state_word c w = set_since base m (codes "state") state_word c w
  both_since Same Changed m word state_word c w = set_since base m (codes "state") state_word c w
  both_since NoField NoField m word state_word c w = w
  both_since NoField NoFit m word state_word c w = w
  both_since NoField Same m word state_word c w = w
  both_since NoFit NoField m word state_word c w = w
  both_since NoFit NoFit m word state_word c w = w
  both_since NoFit Same m word state_word c w = w
  both_since Same NoField m word state_word c w = w
  both_since Same NoFit m word state_word c w = w
  both_since Same Same m word state_word c w = w

  control_set_since : (m : ℕ) (word : Tree) (state_word : Text) (c : Core) → Since base c → Since base (set_control m word state_word c).after.core
  control_set_since m word state_word c w = both_since (set_of c m (codes "control") word) (set_of c m (codes "state") (Leaf (Words state_word))) m word (Leaf (Words state_word)) c w

  start_since : (f : Function) (scope : ℕ) (copy : Tree) (m : ℕ) (c : Core) → Since base c → Since base (start f scope copy m c).core
  start_since f scope copy m c w = w

  started_since : (o : Option Tree) (room : Bool) (f : Function) (scope m : ℕ) (word : Tree) (c : Core) → Since base c → Since base (started_with o room f scope m word c).after.core
  started_since None room f scope m word c w = w
  started_since (Some copy) false f scope m word c w = w
  started_since (Some copy) true f scope m word c w = control_set_since m word (codes "run") (start f scope copy m c).core (start_since f scope copy m c w)

  run_since : (o : Option Function) (scope m : ℕ) (word : Tree) (c : Core) → Since base c → Since base (run_function o scope m word c).after.core
  run_since None scope m word c w = control_set_since m word (codes "stop") c w
  run_since (Some f) scope m word c w = started_since (copied_m c (home_of_node c m)) (nat_lt (length c.actors) 4096) f scope m word c w

  component_since : (ch : Channel) (o : Option Component) (m : ℕ) (word : Tree) (c : Core) → Since base c → Since base (run_component ch o m word c).after.core
  component_since ch None m word c w = control_set_since m word (codes "stop") c w
  component_since ch (Some component) m word c w = run_since (function_at ch (function_in ch component (text_at c.nodes m (codes "functionname")))) component.scope m word c w

  task_since : (ch : Channel) (o : Option ℕ) (m : ℕ) (word : Tree) (c : Core) → Since base c → Since base (run_task ch o m word c).after.core
  task_since ch (Some task) m word c w = set_by_since (set_of c m (codes "control") word) m (codes "control") word c w
  task_since ch None m word c w = component_since ch (option_and_then (component_at ch) (kind_of_node ch c.nodes m)) m word c w

  stop_since : (o : Option ℕ) (m : ℕ) (word : Tree) (c : Core) → Since base c → Since base (stop_task o m word c).after.core
  stop_since None m word c w = set_by_since (set_of c m (codes "control") word) m (codes "control") word c w
  stop_since (Some task) m word c w = control_set_since m word (codes "stop") (stop (suc (suc task)) c).core (actor_since base (suc (suc task)) ended c (λ x. refl) w)

  control_since : (ch : Channel) (m : ℕ) (word : Tree) (c : Core) → Since base c → Since base (control ch m word c).after.core
  control_since ch m word c w = by_word (bytes_eq (folded (words_of word)) (codes "run")) (bytes_eq (folded (words_of word)) (codes "stop"))
    where
      by_word : (one other : Bool) → Since base (if one then run_task ch (live_task_of m c) m word c else if other then stop_task (live_task_of m c) m word c else set m (codes "control") word c).after.core
      by_word true other = task_since ch (live_task_of m c) m word c w
      by_word false true = stop_since (live_task_of m c) m word c w
      by_word false false = set_by_since (set_of c m (codes "control") word) m (codes "control") word c w

  control_if_since : (o : SetResult) (ch : Channel) (m : ℕ) (word : Tree) (c : Core) → Since base c → Since base (control_if o ch m word c).after.core
  control_if_since NoField ch m word c w = w
  control_if_since NoFit ch m word c w = w
  control_if_since Same ch m word c w = control_since ch m word c w
  control_if_since Changed ch m word c w = control_since ch m word c w

  by_kind_since : (b : Bool) (ch : Channel) (m : ℕ) (f : Text) (v : Tree) (c : Core) → Since base c → Since base (set_by_kind b ch m f v c).after.core
  by_kind_since true ch m f v c w = control_if_since (set_of c m (codes "control") v) ch m v c w
  by_kind_since false ch m f v c w = set_by_since (set_of c m f v) m f v c w

  -- ---- makings

  settle_in_since : (ch : Channel) (m kind : ℕ) (o : Option Component) (c : Core) → Since base c → Since base (settle_in ch m kind o c)
  settle_in_since ch m kind None c w = w
  settle_in_since ch m kind (Some component) c w = actor_since base 0 (with_home component.scope (m_of m)) c (λ x. refl) w

  settle_kind_since : (ch : Channel) (m : ℕ) (o : Option ℕ) (c : Core) → Since base c → Since base (settle_kind ch m o c)
  settle_kind_since ch m None c w = w
  settle_kind_since ch m (Some kind) c w = settle_in_since ch m kind (component_at ch kind) c w

  settle_each_since : (ch : Channel) (ms : List ℕ) (c : Core) → Since base c → Since base (settle_each ch ms c)
  settle_each_since ch [] c w = w
  settle_each_since ch (m ∷ ms) c w = settle_each_since ch ms (settle_kind ch m (kind_of_node ch c.nodes m) c) (settle_kind_since ch m (kind_of_node ch c.nodes m) c w)

  made_since : (ch : Channel) (m : ℕ) (parent : Option ℕ) (o : Option (List Node)) (c : Core) → ((nodes : List Node) → o ≡ Some nodes → OnlyToRender base nodes) → Since base c → Since base (made_by ch m parent o c).after.core
  made_since ch m parent None c few w = w
  made_since ch m parent (Some nodes) c few w = settle_each_since ch (numbers_from m (length nodes - length c.nodes)) (record c { nodes = below parent nodes m }) (below_nodes base parent nodes m (few nodes refl))

  make_since : (ch : Channel) (kind parent : Option ℕ) (c : Core) → Since base c → Since base (make_kind ch kind parent c).after.core
  make_since ch None parent c w = w
  make_since ch (Some kind) parent c w = made_since ch (length c.nodes + 1) parent (nodes_made ch.plans c.nodes kind 0) c (λ nodes e. made_nodes base ch.plans c.nodes kind 0 nodes e w) w

  -- ---- all accesses

  add_since : (m : ℕ) (f : Text) (o : Option FieldType) (always : Bool) (c : Core) → Since base c → Since base (add_field m f o always c).after.core
  add_since m f None always c w = w
  add_since m f (Some t) always c w = same_owners base (after_add c.nodes m f t always) c.nodes (λ i. stays_at_add (option_map (λ x. x.owner)) (λ g x. refl) c.nodes m i f t always) w

  pub quiet_since : (access : Access) (c : Core) → Since base c → Since base (quiet access c).after.core
  quiet_since (Make kind) c w = w
  quiet_since (Scene kind) c w = w
  quiet_since (Get m f) c w = w
  quiet_since (Set m f v) c w = w
  quiet_since (Has m f) c w = w
  quiet_since (Add m f kind always) c w = add_since m f (type_beside type_words kind) always c w
  quiet_since (ObserveBy m f function) c w = w
  quiet_since (ObserveAt m f port) c w = w
  quiet_since (Unobserve m f) c w = w
  quiet_since (Append m child) c w = same_owners base (appended c.nodes m child) c.nodes (λ i. owner_moved Last c.nodes m child i) w
  quiet_since (Insert m child at) c w = same_owners base (inserted c.nodes m child at) c.nodes (λ i. owner_inserted c.nodes m child i at) w
  quiet_since (Remove m child) c w = same_owners base (removed c.nodes m child) c.nodes (λ i. owner_removed c.nodes m child i) w
  quiet_since (Create m kind) c w = w
  quiet_since (Child m at) c w = w
  quiet_since (Count m) c w = w
  quiet_since (Parent m) c w = w
  quiet_since (Find m id) c w = w
  quiet_since (Focus m on) c w = w
  quiet_since (HasFocus m) c w = w
  quiet_since (InChain m) c w = w
  quiet_since (Subtype m) c w = w
  quiet_since (CallFunc m name arguments) c w = w

  register_since : (b : Bool) (m : ℕ) (f : Text) (to : Target) (c : Core) → Since base c → Since base (register_if b m f to c).after.core
  register_since true m f to c w = w
  register_since false m f to c w = w

  observe_since : (ch : Channel) (o : Option ℕ) (m : ℕ) (f name : Text) (c : Core) → Since base c → Since base (observe_by ch o m f name c).after.core
  observe_since ch None m f name c w = w
  observe_since ch (Some home) m f name c w = register_since (if has_field c.nodes m f then is_some (scoped ch.program (home_of (homes_of_actor (actor_at c 0)) home).scope (folded name)) else false) m f (target.Function home name) c w

  unobserve_since : (b : Bool) (m : ℕ) (f : Text) (c : Core) → Since base c → Since base (unobserve b m f c).after.core
  unobserve_since true m f c w = w
  unobserve_since false m f c w = w

  interface_since : (b : Bool) (ch : Channel) (kind : ℕ) (home : Option ℕ) (name : Text) (arguments : List Tree) (c : Core) → Since base c → Since base (call_interface b ch kind home name arguments c).after.core
  interface_since true ch kind (Some home) name arguments c w = w
  interface_since true ch kind None name arguments c w = w
  interface_since false ch kind home name arguments c w = w

  call_func_since : (ch : Channel) (kind home : Option ℕ) (name : Text) (arguments : List Tree) (c : Core) → Since base c → Since base (call_func ch kind home name arguments c).after.core
  call_func_since ch None home name arguments c w = w
  call_func_since ch (Some kind) home name arguments c w = interface_since (has_interface ch kind name) ch kind home name arguments c w

  pub effect_since : (ch : Channel) (home : Option ℕ) (access : Access) (c : Core) → Since base c → Since base (effect ch home access c).after.core
  effect_since ch home (Make kind) c w = make_since ch (kind_named ch kind) None c w
  effect_since ch home (Scene kind) c w = make_since ch (if_scene ch (kind_named ch kind)) None c w
  effect_since ch home (Create m kind) c w = make_since ch (kind_named ch kind) (Some m) c w
  effect_since ch home (Set m f v) c w = by_kind_since (is_control ch m f c) ch m f v c w
  effect_since ch home (ObserveBy m f function) c w = observe_since ch home m f function c w
  effect_since ch home (ObserveAt m f port) c w = register_since (has_field c.nodes m f) m f (target.Port port) c w
  effect_since ch home (Unobserve m f) c w = unobserve_since (has_field c.nodes m f) m f c w
  effect_since ch home (Focus m on) c w = w
  effect_since ch home (HasFocus m) c w = w
  effect_since ch home (InChain m) c w = w
  effect_since ch home (CallFunc m name arguments) c w = call_func_since ch (kind_of_node ch c.nodes m) (home_of_node c m) name arguments c w
  effect_since ch home (Get m f) c w = w
  effect_since ch home (Has m f) c w = w
  effect_since ch home (Add m f kind always) c w = add_since m f (type_beside type_words kind) always c w
  effect_since ch home (Append m child) c w = same_owners base (appended c.nodes m child) c.nodes (λ i. owner_moved Last c.nodes m child i) w
  effect_since ch home (Insert m child at) c w = same_owners base (inserted c.nodes m child at) c.nodes (λ i. owner_inserted c.nodes m child i at) w
  effect_since ch home (Remove m child) c w = same_owners base (removed c.nodes m child) c.nodes (λ i. owner_removed c.nodes m child i) w
  effect_since ch home (Child m at) c w = w
  effect_since ch home (Count m) c w = w
  effect_since ch home (Parent m) c w = w
  effect_since ch home (Find m id) c w = w
  effect_since ch home (Subtype m) c w = w

  -- ---- a begun access

  pub given_since : (roots : List ℕ) (c : Core) → Since base c → OnlyToRender base (given c.nodes roots)
  given_since roots c w = given_nodes base c.nodes roots w
