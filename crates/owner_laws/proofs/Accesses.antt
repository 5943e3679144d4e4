-- Accesses of actor 0, and of entries, keep the rule of owners.
use Rattle.std.proofs.Common.{◌≡◌, ℕ, zero, suc, ◌+◌, Bool, true, false, List, [], ◌∷◌, ◌++◌, Option, Some, None, refl, sym, ap, subst, ◌∙◌, inl, inr}
use Rattle.std.specs.Prelude.{ℤ, is_some, option_map, if◌then◌else◌}
use Rattle.std.specs.List.{AllByRecursion}
use Rattle.chan_values.specs.Folded.{folded}
use Rattle.chan_values.specs.Tree.{Tree}
use Rattle.field_types.specs.declared.types.FieldType.{FieldType}
use Rattle.field_types.specs.Words.{type_words, type_beside}
use Rattle.field_types.specs.Plans.{IsPlanTable}
use Rattle.field_observers.specs.declared.target.Target.{Target}
use Rattle.field_observers.specs.declared.target.Target.TheVariants as target
use Rattle.field_observers.specs.InTime.{Observer, stays}
use Rattle.focus_keys.specs.Chain.{after_set}
use Rattle.node_tree.specs.declared.node.Node.{Node}
use Rattle.node_tree.specs.declared.children.Place.TheVariants.{Last}
use Rattle.node_tree.specs.Nodes.{owner_of, parent_of}
use Rattle.node_tree.specs.Fields.{has_field, after_add}
use Rattle.node_tree.specs.Family.{has, appended, inserted, removed, child_at}
use Rattle.node_tree.specs.Search.{found}
use Rattle.node_tree.specs.Reach.{given}
use Rattle.node_tree.specs.Owned.{Of, OnlyToRender}
use Rattle.node_tree.proofs.Stays.{stays_at_add, owner_moved, owner_inserted, owner_removed}
use Rattle.node_tree.proofs.Owning.{add_owned, moved_owned, inserted_owned, removed_owned, child_owned, given_to_render, given_roots, given_owned}
use Rattle.node_tree.proofs.Kept.{all_in}
use Rattle.brs_grammar.specs.Form.{Text}
use Rattle.brs_meaning.specs.Program.{scoped}
use Rattle.brs_meaning.specs.Request as q
use Rattle.brs_meaning.specs.Request.{Access}
use Rattle.brs_meaning.specs.Reduction.{home_of}
use Rattle.brs_meaning.specs.Answering.{Value, Values}
use Rattle.brs_meaning.specs.NodeLaws.{AnswerNames, CallOnTopNames}
use Rattle.brs_meaning.specs.Nodes.{Each, IfSome, TreeNames, AccessNames}
use Rattle.world_meaning.specs.Channel.{Channel, kind_of_node, has_interface}
use Rattle.world_meaning.specs.Core.{Called, Core, actor_at, with_agendas, home_of_node, homes_of_actor}
use Rattle.world_meaning.specs.Ending.{asking_place}
use Rattle.world_meaning.specs.Effect.{Result, Gives, Raises, Jobs, Calls, Effect, follow, serve}
use Rattle.world_meaning.specs.Accesses.{node_value, add_field, quiet, register_if, observe_by, unobserve, call_interface, call_func, effect, nodes_of}
use Rattle.world_meaning.specs.Entries.{give_to_render}
use Rattle.owner_laws.specs.Owners.{Owners}
use Rattle.owner_laws.proofs.Naming.{each_append, each_filter}
use Rattle.owner_laws.proofs.Values.{access_list, list_access}
use Rattle.owner_laws.proofs.Kin.{found_owned, parent_if, focus_owned}
use Rattle.owner_laws.proofs.Places.{render_is, same_owners, nodes_change, with_jobs, with_observers, with_focus}
use Rattle.owner_laws.proofs.Jobs.{answer_owned, refuse_owned, settle_owned, call_owned}
use Rattle.owner_laws.proofs.Changes.{ResultNames, IsEffectOwned, value_owned, set_field_owned}
use Rattle.owner_laws.proofs.Makings.{make_owned, make_scene_owned}

-- ---- accesses at nodes of one owner, of which nobody hears

abbrev pub Owns : ℕ → List Node → ℕ → Type 0
Owns a nodes n = owner_of nodes n ≡ Some a

-- the receiver of an access, and the child that is its argument
abbrev pub Receivers : (ℕ → Type 0) → Access → Type 0
Receivers S (q.Get n f) = S n
Receivers S (q.Set n f v) = S n
Receivers S (q.Has n f) = S n
Receivers S (q.Add n f word always) = S n
Receivers S (q.Append n child) = S n × S child
Receivers S (q.Insert n child at) = S n × S child
Receivers S (q.Remove n child) = S n × S child
Receivers S (q.Create n kind) = S n
Receivers S (q.Child n at) = S n
Receivers S (q.Count n) = S n
Receivers S (q.Parent n) = S n
Receivers S (q.Find n id) = S n
Receivers S (q.Subtype n) = S n
Receivers S _ = Unit {0}

node_value_names : (S : ℕ → Type 0) (o : Option ℕ) → IfSome S o → TreeNames S (node_value o)
node_value_names S None h = tt
node_value_names S (Some n) h = h

child_if : (a n : ℕ) (at : ℤ) (c : Core) → Owners c → Of a c.nodes n → IfSome (Of a c.nodes) (child_at c.nodes n at)
child_if a n at c r o = go (child_at c.nodes n at) refl
  where
    go : (p : Option ℕ) → child_at c.nodes n at ≡ p → IfSome (Of a c.nodes) p
    go None e = tt
    go (Some k) e = child_owned a n k at c.nodes o e r.kin_and_fields

pub add_to_render : (nodes : List Node) (n : ℕ) (f : Text) (t : FieldType) (always : Bool) → OnlyToRender nodes (after_add nodes n f t always)
add_to_render nodes n f t always = same_owners nodes (after_add nodes n f t always) (λ i. stays_at_add (option_map (λ x. x.owner)) (λ fields x. refl) nodes n i f t always)

add_field_owned : (a n : ℕ) (f : Text) (t : Option FieldType) (always : Bool) (c : Core) → Owners c → IsEffectOwned a (add_field n f t always c)
add_field_owned a n f None always c r = record { after = r; result = tt }
add_field_owned a n f (Some t) always c r = record { after = nodes_change c (after_add c.nodes n f t always) (add_to_render c.nodes n f t always) (add_owned n f t always c.nodes r.kin_and_fields) r; result = tt }

pub quiet_owned : (a : ℕ) (access : Access) (c : Core) → Receivers (Owns a c.nodes) access → Owners c → IsEffectOwned a (quiet access c)
quiet_owned a (q.Make kind) c h r = record { after = r; result = tt }
quiet_owned a (q.Scene kind) c h r = record { after = r; result = tt }
quiet_owned a (q.Get n f) c h r = record { after = r; result = value_owned a n f c.nodes r.kin_and_fields (inr h) }
quiet_owned a (q.Set n f v) c h r = record { after = r; result = tt }
quiet_owned a (q.Has n f) c h r = record { after = r; result = tt }
quiet_owned a (q.Add n f word always) c h r = add_field_owned a n f (type_beside type_words word) always c r
quiet_owned a (q.ObserveBy n f function) c h r = record { after = r; result = tt }
quiet_owned a (q.ObserveAt n f port) c h r = record { after = r; result = tt }
quiet_owned a (q.Unobserve n f) c h r = record { after = r; result = tt }
quiet_owned a (q.Append n child) c h r = record { after = nodes_change c (appended c.nodes n child) (same_owners c.nodes (appended c.nodes n child) (owner_moved Last c.nodes n child)) (moved_owned Last a n child c.nodes h.0 h.1 r.kin_and_fields) r; result = tt }
quiet_owned a (q.Insert n child at) c h r = record { after = nodes_change c (inserted c.nodes n child at) (same_owners c.nodes (inserted c.nodes n child at) (λ i. owner_inserted c.nodes n child i at)) (inserted_owned a n child at c.nodes h.0 h.1 r.kin_and_fields) r; result = tt }
quiet_owned a (q.Remove n child) c h r = record { after = nodes_change c (removed c.nodes n child) (same_owners c.nodes (removed c.nodes n child) (owner_removed c.nodes n child)) (removed_owned n child c.nodes r.kin_and_fields) r; result = tt }
quiet_owned a (q.Create n kind) c h r = record { after = r; result = tt }
quiet_owned a (q.Child n at) c h r = record { after = r; result = node_value_names (Of a c.nodes) (child_at c.nodes n at) (child_if a n at c r (inr h)) }
quiet_owned a (q.Count n) c h r = record { after = r; result = tt }
quiet_owned a (q.Parent n) c h r = record { after = r; result = node_value_names (Of a c.nodes) (parent_of c.nodes n) (parent_if a n c.nodes r.kin_and_fields (inr h)) }
quiet_owned a (q.Find n id) c h r = record { after = r; result = node_value_names (Of a c.nodes) (found c.nodes n id) (found_owned a n id c.nodes r.kin_and_fields (inr h)) }
quiet_owned a (q.Focus n on) c h r = record { after = r; result = tt }
quiet_owned a (q.HasFocus n) c h r = record { after = r; result = tt }
quiet_owned a (q.InChain n) c h r = record { after = r; result = tt }
quiet_owned a (q.Subtype n) c h r = record { after = r; result = tt }
quiet_owned a (q.CallFunc n name arguments) c h r = record { after = r; result = tt }

-- ---- observers and functions of an interface

register_owned : (b : Bool) (n : ℕ) (f : Text) (to : Target) (c : Core) → Of 0 c.nodes n → Owners c → IsEffectOwned 0 (register_if b n f to c)
register_owned true n f to c o r = record { after = with_observers c _ (each_append (λ x. Of 0 c.nodes x.node) c.observers (record { node = n; field = folded f; registration = record { target = to; fixed = false } } ∷ []) r.registered (o, tt)) r; result = tt }
register_owned false n f to c o r = record { after = r; result = tt }

observe_owned : (ch : Channel) (home : Option ℕ) (n : ℕ) (f name : Text) (c : Core) → Of 0 c.nodes n → Owners c → IsEffectOwned 0 (observe_by ch home n f name c)
observe_owned ch None n f name c o r = record { after = r; result = tt }
observe_owned ch (Some home) n f name c o r = register_owned (if has_field c.nodes n f then is_some (scoped ch.program (home_of (homes_of_actor (actor_at c 0)) home).scope (folded name)) else false) n f (target.Function home name) c o r

unobserve_owned : (b : Bool) (n : ℕ) (f : Text) (c : Core) → Owners c → IsEffectOwned 0 (unobserve b n f c)
unobserve_owned true n f c r = record { after = with_observers c _ (each_filter (λ x. Of 0 c.nodes x.node) (stays n (folded f)) c.observers r.registered) r; result = tt }
unobserve_owned false n f c r = record { after = r; result = tt }

interface_owned : (b : Bool) (ch : Channel) (kind : ℕ) (home : Option ℕ) (name : Text) (arguments : List Tree) (c : Core) → Each (TreeNames (Of 0 c.nodes)) arguments → Owners c → IsEffectOwned 0 (call_interface b ch kind home name arguments c)
interface_owned true ch kind (Some home) name arguments c h r = record { after = r; result = h }
interface_owned true ch kind None name arguments c h r = record { after = r; result = tt }
interface_owned false ch kind None name arguments c h r = record { after = r; result = tt }
interface_owned false ch kind (Some home) name arguments c h r = record { after = r; result = tt }

call_func_owned : (ch : Channel) (kind home : Option ℕ) (name : Text) (arguments : List Tree) (c : Core) → Each (TreeNames (Of 0 c.nodes)) arguments → Owners c → IsEffectOwned 0 (call_func ch kind home name arguments c)
call_func_owned ch None home name arguments c h r = record { after = r; result = tt }
call_func_owned ch (Some kind) home name arguments c h r = interface_owned (has_interface ch kind name) ch kind home name arguments c h r

-- ---- all accesses

module _ (on_top : CallOnTopNames) (ch : Channel) (table : IsPlanTable ch.plans) where
  pub effect_owned : (home : Option ℕ) (access : Access) (c : Core) → AccessNames (Of 0 c.nodes) access → Owners c → IsEffectOwned 0 (effect ch home access c)
  effect_owned home (q.Make kind) c h r = make_owned ch table kind None c tt r
  effect_owned home (q.Scene kind) c h r = make_scene_owned ch table kind c r
  effect_owned home (q.Create n kind) c h r = make_owned ch table kind (Some n) c (render_is c.nodes n h) r
  effect_owned home (q.Set n f v) c h r = set_field_owned on_top ch n f v c h.0 h.1 r
  effect_owned home (q.ObserveBy n f function) c h r = observe_owned ch home n f function c h r
  effect_owned home (q.ObserveAt n f port) c h r = register_owned (has_field c.nodes n f) n f (target.Port port) c h r
  effect_owned home (q.Unobserve n f) c h r = unobserve_owned (has_field c.nodes n f) n f c r
  effect_owned home (q.Focus n on) c h r = record { after = with_focus c (after_set c.focus n on) (focus_owned c.nodes c.focus n on h r.focused) r; result = tt }
  effect_owned home (q.HasFocus n) c h r = record { after = r; result = tt }
  effect_owned home (q.InChain n) c h r = record { after = r; result = tt }
  effect_owned home (q.CallFunc n name arguments) c h r = call_func_owned ch (kind_of_node ch c.nodes n) (home_of_node c n) name arguments c h.1 r
  effect_owned home (q.Get n f) c h r = quiet_owned 0 (q.Get n f) c (render_is c.nodes n h) r
  effect_owned home (q.Has n f) c h r = quiet_owned 0 (q.Has n f) c (render_is c.nodes n h) r
  effect_owned home (q.Add n f word always) c h r = quiet_owned 0 (q.Add n f word always) c (render_is c.nodes n h) r
  effect_owned home (q.Append n child) c h r = quiet_owned 0 (q.Append n child) c (render_is c.nodes n h.0, render_is c.nodes child h.1) r
  effect_owned home (q.Insert n child at) c h r = quiet_owned 0 (q.Insert n child at) c (render_is c.nodes n h.0, render_is c.nodes child h.1) r
  effect_owned home (q.Remove n child) c h r = quiet_owned 0 (q.Remove n child) c (render_is c.nodes n h.0, render_is c.nodes child h.1) r
  effect_owned home (q.Child n at) c h r = quiet_owned 0 (q.Child n at) c (render_is c.nodes n h) r
  effect_owned home (q.Count n) c h r = quiet_owned 0 (q.Count n) c (render_is c.nodes n h) r
  effect_owned home (q.Parent n) c h r = quiet_owned 0 (q.Parent n) c (render_is c.nodes n h) r
  effect_owned home (q.Find n id) c h r = quiet_owned 0 (q.Find n id) c (render_is c.nodes n h) r
  effect_owned home (q.Subtype n) c h r = quiet_owned 0 (q.Subtype n) c (render_is c.nodes n h) r

module _ (answers : AnswerNames) (on_top : CallOnTopNames) where
  follow_owned : (x : Result) (c : Core) → ResultNames (Of 0 c.nodes) x → Owners c → Owners (follow x c).core
  follow_owned (Gives v) c h r = answer_owned answers (Value v) c h r
  follow_owned (Raises e) c h r = refuse_owned e (asking_place c) c r
  follow_owned Jobs c h r = settle_owned answers c r
  follow_owned (Calls f home arguments) c h r = call_owned answers on_top f home (Values arguments) (with_agendas (Called ∷ c.agendas) c) h (with_jobs c (Called ∷ c.agendas) (tt, r.jobs) r)

  pub serve_owned : (e : Effect) → IsEffectOwned 0 e → Owners (serve e).core
  serve_owned e h = follow_owned e.result e.after.core h.result h.after

-- ---- a gift

pub gift_owned : (access : Access) (c : Core) → Owners c → Owners (give_to_render access c)
gift_owned access c r = nodes_change c (given c.nodes (nodes_of access)) (given_to_render c.nodes (nodes_of access)) (given_owned c.nodes (nodes_of access) r.kin_and_fields) r

-- what named nodes of its poster names nodes of render once they were given
pub given_names : (a : ℕ) (access : Access) (nodes : List Node) → AccessNames (Of a nodes) access → AccessNames (Of 0 (given nodes (nodes_of access))) access
given_names a access nodes h =
    list_access (Of 0 (given nodes (nodes_of access))) access
    (all_in (Of a nodes) (Of 0 (given nodes (nodes_of access))) (nodes_of access) (λ n there o. inl (given_roots a nodes (nodes_of access) n there o)) (access_list (Of a nodes) access h))
