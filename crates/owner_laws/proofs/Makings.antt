-- Makings for render keep the rule of owners.
use Rattle.std.proofs.Common.{◌≡◌, ℕ, zero, suc, ◌+◌, ◌-◌, ◌≤◌, Bool, true, false, List, [], ◌∷◌, ◌++◌, Option, Some, None, refl, sym, ap, subst, ◌∙◌, inl, inr, ◌⊎◌, length, map, arith}
use Rattle.std.specs.Prelude.{slice_get, option_map, option_and_then, codes}
use Rattle.chan_values.specs.Tree.{NodeNumber, Leaf}
use Rattle.field_types.specs.Plans.{IsPlanTable}
use Rattle.field_observers.specs.InTime.{Observer}
use Rattle.heap_meaning.specs.Values.{Reference, Entry}
use Rattle.heap_meaning.specs.Store.{Object}
use Rattle.node_tree.specs.declared.node.Node.{Node}
use Rattle.node_tree.specs.Nodes.{node_at, owner_of}
use Rattle.node_tree.specs.Owned.{Of}
use Rattle.brs_grammar.specs.Form.{Text}
use Rattle.brs_meaning.specs.Answering.{Value}
use Rattle.brs_meaning.specs.Nodes.{Each, IfSome, ObjectNames, ValueNames}
use Rattle.world_meaning.specs.Channel.{Channel, Component, kind_named, component_at, kind_of_node, on_changes_of}
use Rattle.world_meaning.specs.Core.{Inits, Actor, Core, change_actor}
use Rattle.world_meaning.specs.Making.{m_of, with_home, fixed_observer, settle_in, settle_kind, settle_each, numbers_from, all_inits, begin_inits, below, made_by, make_kind, make, if_scene, make_scene}
use Rattle.world_meaning.specs.NodesMade.{nodes_made}
use Rattle.owner_laws.specs.Owners.{IsActorOwned, Owners}
use Rattle.owner_laws.proofs.Naming.{each_append, each_map}
use Rattle.owner_laws.proofs.Places.{actor_change, nodes_change, with_jobs}
use Rattle.owner_laws.proofs.Kin.{Made, IsMaking, making, below_making, making_to_render, each_new}
use Rattle.owner_laws.proofs.Changes.{IsEffectOwned}

-- ---- homes and observers of new nodes

home_owned : (nodes : List Node) (n scope : ℕ) (x : Actor) → owner_of nodes 1 ≡ Some 0 → Of 0 nodes n → IsActorOwned nodes 0 x → IsActorOwned nodes 0 (with_home scope (m_of n) x)
home_owned nodes n scope x global o h = record {
  calls = h.calls;
  store = each_append (ObjectNames (Of 0 nodes)) x.store (m_of n ∷ []) h.store ((inl global, (o, tt)), tt);
  homes = each_append (λ y. ValueNames (Of 0 nodes) y.m) x.homes (record { scope = scope; m = Reference (length x.store) } ∷ []) h.homes (tt, tt);
  task = h.task;
}

settle_in_owned : (ch : Channel) (n kind : ℕ) (x : Option Component) (c : Core) → Of 0 c.nodes n → Owners c → Owners (settle_in ch n kind x c)
settle_in_owned ch n kind None c o r = r
settle_in_owned ch n kind (Some component) c o r =
    let s : Owners (change_actor 0 (with_home component.scope (m_of n)) c) = actor_change c 0 (with_home component.scope (m_of n)) (λ x e h. home_owned c.nodes n component.scope x r.global o h) r in
    record {
      kin_and_fields = s.kin_and_fields;
      global = s.global;
      registered = each_append (λ x. Of 0 c.nodes x.node) c.observers (map (fixed_observer n (length c.homes)) (on_changes_of ch kind)) r.registered (each_map (λ x. Of 0 c.nodes x.node) (fixed_observer n (length c.homes)) (λ e. o) (on_changes_of ch kind));
      messages = s.messages;
      focused = s.focused;
      entries = s.entries;
      actor = s.actor;
      at_home = each_append (Of 0 c.nodes) c.homes (n ∷ []) r.at_home (o, tt);
      jobs = s.jobs;
      answer = s.answer;
    }

settle_kind_owned : (ch : Channel) (n : ℕ) (x : Option ℕ) (c : Core) → Of 0 c.nodes n → Owners c → Owners (settle_kind ch n x c)
settle_kind_owned ch n None c o r = r
settle_kind_owned ch n (Some kind) c o r = settle_in_owned ch n kind (component_at ch kind) c o r

settle_in_nodes : (ch : Channel) (n kind : ℕ) (x : Option Component) (c : Core) → (settle_in ch n kind x c).nodes ≡ c.nodes
settle_in_nodes ch n kind None c = refl
settle_in_nodes ch n kind (Some component) c = refl

settle_kind_nodes : (ch : Channel) (n : ℕ) (x : Option ℕ) (c : Core) → (settle_kind ch n x c).nodes ≡ c.nodes
settle_kind_nodes ch n None c = refl
settle_kind_nodes ch n (Some kind) c = settle_in_nodes ch n kind (component_at ch kind) c

settle_node_owned : (ch : Channel) (n : ℕ) (c : Core) → Made 0 c.nodes n → Owners c → Owners (settle_kind ch n (kind_of_node ch c.nodes n) c)
settle_node_owned ch n c (inl q) r = subst (λ o. Owners (settle_kind ch n o c)) (sym (ap (λ o. option_and_then (kind_named ch) (option_map (λ x. x.kind) o)) q)) r
settle_node_owned ch n c (inr e) r = settle_kind_owned ch n (kind_of_node ch c.nodes n) c (inl e) r

-- each new node settles, and no node changes
record IsSettled (nodes : List Node) (c : Core) : Type 0 where
  owners : Owners c
  nodes_are : c.nodes ≡ nodes

settle_each_owned : (ch : Channel) (nodes : List Node) (ns : List ℕ) (c : Core) → Each (Made 0 nodes) ns → IsSettled nodes c → IsSettled nodes (settle_each ch ns c)
settle_each_owned ch nodes [] c h s = s
settle_each_owned ch nodes (n ∷ ns) c h s =
    settle_each_owned ch nodes ns (settle_kind ch n (kind_of_node ch c.nodes n) c) h.1
    (record { owners = settle_node_owned ch n c (subst (λ l. Made 0 l n) (sym s.nodes_are) h.0) s.owners; nodes_are = settle_kind_nodes ch n (kind_of_node ch c.nodes n) c ∙ s.nodes_are })

-- ---- the making

inits_owned : (ch : Channel) (n : ℕ) (c : Core) → Of 0 c.nodes n → Owners c → IsEffectOwned 0 (begin_inits ch n c)
inits_owned ch n c o r = record { after = with_jobs c (Inits false (all_inits ch c n) (Value (Leaf (NodeNumber n))) ∷ c.agendas) (o, r.jobs) r; result = tt }

made_owned : (ch : Channel) (parent : Option ℕ) (x : Option (List Node)) (c : Core) → IfSome (λ p. owner_of c.nodes p ≡ Some 0) parent → ((nodes : List Node) → x ≡ Some nodes → IsMaking c.nodes nodes 0) → Owners c → IsEffectOwned 0 (made_by ch (suc (length c.nodes)) parent x c)
made_owned ch parent None c h m r = record { after = r; result = tt }
made_owned ch parent (Some nodes) c h m r =
    let n : ℕ = suc (length c.nodes) in
    let after : List Node = below parent nodes n in
    let b : IsMaking c.nodes after 0 = below_making c.nodes nodes 0 parent h (m nodes refl) in
    let old : Owners (record c { nodes = after }) = nodes_change c after (making_to_render c.nodes after 0 b) b.owned r in
    let new : List ℕ = numbers_from n (length nodes - length c.nodes) in
    let s : IsSettled after (settle_each ch new (record c { nodes = after })) = settle_each_owned ch after new (record c { nodes = after }) (each_new c.nodes after 0 b (length c.nodes) (length nodes - length c.nodes) (omega arith)) (record { owners = old; nodes_are = refl }) in
    inits_owned ch n (settle_each ch new (record c { nodes = after })) (inl (subst (λ l. owner_of l n ≡ Some 0) (sym s.nodes_are) b.first)) s.owners

module _ (ch : Channel) (table : IsPlanTable ch.plans) where
  make_kind_owned : (kind parent : Option ℕ) (c : Core) → IfSome (λ p. owner_of c.nodes p ≡ Some 0) parent → Owners c → IsEffectOwned 0 (make_kind ch kind parent c)
  make_kind_owned None parent c h r = record { after = r; result = tt }
  make_kind_owned (Some kind) parent c h r =
      let same : suc (length c.nodes) ≡ length c.nodes + 1 = omega arith in
      subst (λ n. IsEffectOwned 0 (made_by ch n parent (nodes_made ch.plans c.nodes kind 0) c)) same
      (made_owned ch parent (nodes_made ch.plans c.nodes kind 0) c h (λ nodes e. making ch.plans c.nodes kind 0 nodes table e r.kin_and_fields) r)

  pub make_owned : (name : Text) (parent : Option ℕ) (c : Core) → IfSome (λ p. owner_of c.nodes p ≡ Some 0) parent → Owners c → IsEffectOwned 0 (make ch name parent c)
  make_owned name parent c h r = make_kind_owned (kind_named ch name) parent c h r

  pub make_scene_owned : (name : Text) (c : Core) → Owners c → IsEffectOwned 0 (make_scene ch name c)
  make_scene_owned name c r = make_kind_owned (if_scene ch (kind_named ch name)) None c tt r
