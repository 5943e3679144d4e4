-- Places lead to one another as the names that have them reach one another.
use Rattle.std.proofs.Common.{◌≡◌, ℕ, ◌⊎◌, inl, inr, List, [], ◌∷◌, ◌++◌, Option, Some, None, map, sym, ap, ◌∙◌, subst}
use Rattle.std.specs.List.{Contains}
use Rattle.std.proofs.lemmas.List.Elements.{Contains-append_right}
use Rattle.folder_rules.specs.declared.component.PathedComponent.{PathedComponent}
use Rattle.folder_rules.specs.declared.names.NameTable.{NameTable}
use Rattle.folder_rules.specs.KindFaults as f
use Rattle.folder_rules.specs.KindFaults.{named_kinds, IsInCycle, Reaches}
use Rattle.folder_rules.specs.Kinds.{component_name, built_in_names, kind_names}
use Rattle.folder_rules.specs.Names.{number_in, place_of, HasPlaces}
use Rattle.component_cycles.specs.declared.graph.NamedKinds.{NamedKinds}
use Rattle.component_cycles.specs.Graph.{Names, Leads, at_once, by_way_of, ComponentNames, HasStepsOf, LeadsBack}
use Rattle.component_cycles.proofs.Members.{no_member, first_member, later_member, member_cases, member_place, one_place}

mapped_member : {A B : Type 0} (g : A → B) (xs : List A) (x : A) → Contains xs x → Contains (map g xs) (g x)
mapped_member g [] x m = absurd (no_member x m)
mapped_member g (y ∷ ys) x m = go (λ n. mapped_member g ys x n) (member_cases y x ys m)
  where
    go : (Contains ys x → Contains (map g ys) (g x)) → (y ≡ x) ⊎ Contains ys x → Contains (g y ∷ map g ys) (g x)
    go r (inl e) = subst (λ z. Contains (g y ∷ map g ys) (g z)) e (first_member (g y) (map g ys))
    go r (inr n) = later_member (g y) (g x) (map g ys) (r n)

-- the name of a component has a place
placed : (cs : List PathedComponent) (c : PathedComponent) → Contains cs c → (place : ℕ) × (place_of (kind_names cs) (component_name c) ≡ Some place)
placed cs c m = member_place 0 (kind_names cs) (component_name c) (Contains-append_right built_in_names (map component_name cs) (component_name c) (mapped_member component_name cs c m))

module _ (cs : List PathedComponent) (graph : List NamedKinds) (steps : HasStepsOf (kind_names cs) cs graph) where
  step : (name other : List ℕ) → f.Leads cs name other → (p q : ℕ) → place_of (kind_names cs) name ≡ Some p → place_of (kind_names cs) other ≡ Some q → Names graph p q
  step name other l p q at_p at_q = steps.all p q (record {
    component = l.component;
    listed = l.listed;
    is_at = ap (place_of (kind_names cs)) l.is_named ∙ at_p;
    kind = other;
    names_it = l.names_it;
    kind_is_at = at_q;
  })

  -- what reaches another has a place, as it is a component's name
  starts : (name other : List ℕ) → f.Leads cs name other → (place : ℕ) × (place_of (kind_names cs) name ≡ Some place)
  starts name other l = let p = placed cs l.component l.listed in (p.0, ap (place_of (kind_names cs)) (sym l.is_named) ∙ p.1)

  start_of : (name other : List ℕ) → Reaches cs name other → (place : ℕ) × (place_of (kind_names cs) name ≡ Some place)
  start_of name other (f.at_once l) = starts name other l
  start_of name other (f.by_way_of {next = next} l more) = starts name next l

  reaches_leads : (name other : List ℕ) → Reaches cs name other → (p q : ℕ) → place_of (kind_names cs) name ≡ Some p → place_of (kind_names cs) other ≡ Some q → Leads graph p q
  reaches_leads name other (f.at_once l) p q at_p at_q = at_once (step name other l p q at_p at_q)
  reaches_leads name other (f.by_way_of {next = next} l more) p q at_p at_q =
      let m = start_of next other more in
      by_way_of (step name next l p m.0 at_p m.1) (reaches_leads next other more m.0 q m.1 at_q)

  step_back : (p q : ℕ) → Names graph p q → (name : List ℕ) → place_of (kind_names cs) name ≡ Some p → (other : List ℕ) × (place_of (kind_names cs) other ≡ Some q) × f.Leads cs name other
  step_back p q n name at_p =
      let c = steps.only p q n in
      (c.kind, c.kind_is_at, record { component = c.component; listed = c.listed; is_named = one_place (kind_names cs) (component_name c.component) name p c.is_at at_p; names_it = c.names_it })

  leads_reaches : (p q : ℕ) → Leads graph p q → (name other : List ℕ) → place_of (kind_names cs) name ≡ Some p → place_of (kind_names cs) other ≡ Some q → Reaches cs name other
  leads_reaches p q (at_once n) name other at_p at_q =
      let s = step_back p q n name at_p in
      f.at_once (subst (f.Leads cs name) (one_place (kind_names cs) s.0 other q s.1 at_q) s.2)
  leads_reaches p q (by_way_of {next = m} n more) name other at_p at_q =
      let s = step_back p m n name at_p in
      f.by_way_of s.2 (leads_reaches m q more s.0 other s.1 at_q)

  module _ (table : NameTable) (has : HasPlaces table (kind_names cs)) where
    pub cycle_leads_back : (c : PathedComponent) → IsInCycle cs c → LeadsBack table graph c
    cycle_leads_back c r =
        let s = start_of (component_name c) (component_name c) r in
        record { place = s.0; is_at = has (component_name c) ∙ s.1; back = reaches_leads (component_name c) (component_name c) r s.0 s.0 s.1 s.1 }

    pub leads_back_cycle : (c : PathedComponent) → LeadsBack table graph c → IsInCycle cs c
    leads_back_cycle c l = let e = sym (has (component_name c)) ∙ l.is_at in leads_reaches l.place l.place l.back (component_name c) (component_name c) e e
