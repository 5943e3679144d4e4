-- The kinds of faults, one after another.
use Rattle.std.proofs.Common.{◌≡◌, List, [], ◌∷◌, Option, Some, None, Result, Err, refl, sym, subst, ap, ◌∙◌, inl, inr}
use Rattle.chan_values.specs.declared.folder_fault.FolderFault.{FolderFault}
use Rattle.folder_rules.specs.declared.answer.TablesAnswer.{TablesAnswer}
use Rattle.folder_rules.specs.declared.component.PathedComponent.{PathedComponent}
use Rattle.folder_rules.specs.declared.source.SourceFunctions.{SourceFunctions}
use Rattle.folder_rules.specs.Answers.{Finds}
use Rattle.folder_rules.specs.Faults.{first}
use Rattle.folder_rules.specs.FirstFault.{FaultKind, IsFirstOfKind, IsFirstOfKinds}
use Rattle.folder_rules.proofs.Found.{err_weaker, finds_weaker}
use Rattle.folder_rules.specs.Scripts.{Source}
use Rattle.script_faults.specs.declared.table.SourceTable.{SourceTable}
use Rattle.script_faults.specs.Sources.{IsTableOf, IsIndexed}

module _ (components : List PathedComponent) (sources : List SourceFunctions) where
  -- the fault of a kind is that of the kinds from it on
  pub refused : (T U : Type 0) (kind : FaultKind) (kinds : List FaultKind) (e : TablesAnswer) → Finds {T = T} (IsFirstOfKind components sources kind) (Err e) → Finds {T = U} (IsFirstOfKinds components sources (kind ∷ kinds)) (Err e)
  refused T U kind kinds e found = err_weaker T U (IsFirstOfKind components sources kind) (IsFirstOfKinds components sources (kind ∷ kinds)) (λ fault p. inl (fault, p, refl)) e found

  -- where a kind has no fault, the first is that of the kinds behind it
  pub behind : {T : Type 0} (kind : FaultKind) (kinds : List FaultKind) → IsFirstOfKind components sources kind None → (r : Result T TablesAnswer) → Finds (IsFirstOfKinds components sources kinds) r → Finds (IsFirstOfKinds components sources (kind ∷ kinds)) r
  behind kind kinds none r found = finds_weaker (IsFirstOfKinds components sources kinds) (IsFirstOfKinds components sources (kind ∷ kinds)) (λ o p. inr (none, p)) r found

  -- the last kind
  pub last : {T : Type 0} (kind : FaultKind) (r : Result T TablesAnswer) → Finds (IsFirstOfKind components sources kind) r → Finds (IsFirstOfKinds components sources (kind ∷ [])) r
  last kind r found = finds_weaker (IsFirstOfKind components sources kind) (IsFirstOfKinds components sources (kind ∷ [])) one r found
    where
      one : (o : Option FolderFault) → IsFirstOfKind components sources kind o → IsFirstOfKinds components sources (kind ∷ []) o
      one None p = inr (p, refl)
      one (Some fault) p = inl (fault, p, refl)

pub indexed : (table : SourceTable) (sources : List Source) → IsTableOf table sources → IsIndexed table
indexed table sources is = subst (IsTableOf table) (sym is.all) is

-- what is found of one list is found of an equal one
pub found_same : {T A : Type 0} (faults : A → List FolderFault) (a b : A) → a ≡ b → (r : Result T TablesAnswer) → Finds (λ found. found ≡ first (faults a)) r → Finds (λ found. found ≡ first (faults b)) r
found_same faults a b e r found = finds_weaker (λ o. o ≡ first (faults a)) (λ o. o ≡ first (faults b)) (λ o p. p ∙ ap (λ x. first (faults x)) e) r found
