-- A component whose place is known leads back to itself where its place does.
use Rattle.std.proofs.Common.{◌≡◌, ◌∙◌, ℕ, Bool, true, false, inl, inr, List, Option, Some, None, refl, sym, subst}
use Rattle.std.specs.Bool.{MatchBool}
use Rattle.folder_rules.specs.declared.component.PathedComponent.{PathedComponent}
use Rattle.folder_rules.specs.declared.names.NameTable.{NameTable}
use Rattle.folder_rules.specs.KindFaults.{cycle_fault}
use Rattle.folder_rules.specs.Kinds.{component_name}
use Rattle.folder_rules.specs.Names.{number_in}
use Rattle.component_cycles.specs.declared.graph.NamedKinds.{NamedKinds}
use Rattle.component_cycles.specs.Graph.{Leads, LeadsBack}
use Rattle.component_cycles.specs.Judged.{Judged}

module _ (table : NameTable) (graph : List NamedKinds) (c : PathedComponent) where
  pub not_named : number_in table (component_name c) ≡ None → Judged (LeadsBack table graph c) (cycle_fault c) None
  not_named e = inr ((λ l. let t : None ≡ Some l.place = sym e ∙ l.is_at in absurd cc), refl)

  module _ (place : ℕ) (at : number_in table (component_name c) ≡ Some place) (b : Bool) (decided : MatchBool b (Leads graph place place) (Leads graph place place → ⊥)) where
    pub inside_cycle : b ≡ true → Judged (LeadsBack table graph c) (cycle_fault c) (Some (cycle_fault c))
    inside_cycle t = inl (record { place = place; is_at = at; back = subst (λ x. MatchBool x (Leads graph place place) (Leads graph place place → ⊥)) t decided }, refl)

    pub outside_cycles : b ≡ false → Judged (LeadsBack table graph c) (cycle_fault c) None
    outside_cycles f = inr ((λ l. let same : l.place ≡ place = one l.place (sym l.is_at ∙ at) in subst (λ x. MatchBool x (Leads graph place place) (Leads graph place place → ⊥)) f decided (subst (λ p. Leads graph p p) same l.back)), refl)
      where
        one : (p : ℕ) → Some p ≡ Some place → p ≡ place
        one p e = cc
