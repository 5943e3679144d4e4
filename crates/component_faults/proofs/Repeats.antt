-- Components whose names stand before them, one after another.
use Rattle.std.proofs.Common.{◌≡◌, ℕ, ◌+◌, ◌<◌, Bool, List, [], ◌∷◌, ◌++◌, Option, Some, None, Result, Ok, Err, length, drop, get_or, sym, ap, ◌∙◌}
use Rattle.chan_values.specs.declared.folder_fault.FolderFault.{FolderFault}
use Rattle.folder_rules.specs.declared.answer.TablesAnswer.{TablesAnswer}
use Rattle.folder_rules.specs.declared.component.PathedComponent.{PathedComponent}
use Rattle.folder_rules.specs.Answers.{Finds}
use Rattle.folder_rules.specs.Faults.{fault_on, fault_where, first}
use Rattle.folder_rules.specs.KindFaults.{repeated_names}
use Rattle.folder_rules.specs.Kinds.{component_name}
use Rattle.folder_rules.specs.Names.{is_among}
use Rattle.folder_rules.proofs.Found.{err_weaker}
use Rattle.folder_rules.proofs.Lists.{drop_here, first_behind, first_here}

abbrev fault : PathedComponent → FolderFault
fault c = fault_on 9 c.path c.file.line (component_name c)

abbrev here_and_behind : List (List ℕ) → PathedComponent → List PathedComponent → List FolderFault
here_and_behind before c cs = fault_where (is_among before (component_name c)) (fault c) ++ repeated_names (before ++ component_name c ∷ []) cs

module _ (before : List (List ℕ)) (cs : List PathedComponent) (i : ℕ) (c : PathedComponent) (h : i < length cs) (at : c ≡ get_or cs i c) (known : Bool) (is : known ≡ is_among before (component_name c))
    (found : Option FolderFault) (left : first (repeated_names before (drop i cs)) ≡ found) where
  split : first (here_and_behind before c (drop (i + 1) cs)) ≡ found
  split = ap (λ l. first (repeated_names before l)) (sym (drop_here cs i c h at)) ∙ left

  pub repeats_next : None ≡ first (fault_where known (fault c)) → (next : List (List ℕ)) → before ++ component_name c ∷ [] ≡ next → first (repeated_names next (drop (i + 1) cs)) ≡ found
  repeats_next none next e =
      ap (λ l. first (repeated_names l (drop (i + 1) cs))) (sym e)
      ∙ sym (first_behind (fault_where (is_among before (component_name c)) (fault c)) (repeated_names (before ++ component_name c ∷ []) (drop (i + 1) cs)) (ap (λ b. first (fault_where b (fault c))) (sym is) ∙ sym none))
      ∙ split

  repeats_here : (f : FolderFault) → Some f ≡ first (fault_where known (fault c)) → Some f ≡ found
  repeats_here f e =
      sym (first_here (fault_where (is_among before (component_name c)) (fault c)) (repeated_names (before ++ component_name c ∷ []) (drop (i + 1) cs)) f (ap (λ b. first (fault_where b (fault c))) (sym is) ∙ sym e))
      ∙ split

pub repeat_refused : (T U : Type 0) (before : List (List ℕ)) (cs : List PathedComponent) (i : ℕ) (c : PathedComponent) (h : i < length cs) (at : c ≡ get_or cs i c) (known : Bool)
    (is : known ≡ is_among before (component_name c)) (found : Option FolderFault) → first (repeated_names before (drop i cs)) ≡ found
    → (e : TablesAnswer) → Finds {T = T} (λ o. o ≡ first (fault_where known (fault c))) (Err e) → Finds {T = U} (λ o. o ≡ found) (Err e)
repeat_refused T U before cs i c h at known is found left e f = err_weaker T U (λ o. o ≡ first (fault_where known (fault c))) (λ o. o ≡ found) (repeats_here before cs i c h at known is found left) e f
