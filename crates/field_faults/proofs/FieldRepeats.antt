-- Fields whose ids stand before them, one after another.
use Rattle.std.proofs.Common.{◌≡◌, ℕ, ◌+◌, ◌<◌, Bool, true, false, ◌||◌, List, [], ◌∷◌, ◌++◌, Option, Some, None, Err, length, drop, get_or, sym, ap, ◌∙◌, refl}
use Rattle.std.specs.Str.{bytes_eq}
use Rattle.std.proofs.lemmas.List.Folds.{list_any-append}
use Rattle.chan_values.specs.Folded.{folded}
use Rattle.chan_values.specs.declared.folder_fault.FolderFault.{FolderFault}
use Rattle.component_files.specs.declared.element.FieldElement.{FieldElement}
use Rattle.folder_rules.specs.declared.answer.TablesAnswer.{TablesAnswer}
use Rattle.folder_rules.specs.Answers.{Finds}
use Rattle.folder_rules.specs.Faults.{fault_on, fault_where, first}
use Rattle.folder_rules.specs.FieldFaults.{repeated_ids}
use Rattle.folder_rules.specs.Names.{is_among}
use Rattle.folder_rules.proofs.Found.{err_weaker}
use Rattle.folder_rules.proofs.Lists.{drop_here, first_behind, first_here}

or_false : (b : Bool) → (b || false) ≡ b
or_false true = refl
or_false false = refl

-- one id more
pub among_one : (known : Bool) (before : List (List ℕ)) (last id : List ℕ) → known ≡ is_among before id → (known || bytes_eq last id) ≡ is_among (before ++ last ∷ []) id
among_one known before last id e =
    ap (λ b. b || bytes_eq last id) e ∙ ap (λ b. is_among before id || b) (sym (or_false (bytes_eq last id)))
    ∙ sym (list_any-append (λ x. bytes_eq x id) before (last ∷ []))

module _ (inherited : List ℕ → Bool) (path : List ℕ) where
  abbrev fault : FieldElement → FolderFault
  fault e = fault_on 14 path e.line (folded e.id)

  module _ (before : List (List ℕ)) (es : List FieldElement) (i : ℕ) (e : FieldElement) (h : i < length es) (at : e ≡ get_or es i e) (known : Bool) (is : known ≡ is_among before (folded e.id))
      (found : Option FolderFault) (left : first (repeated_ids inherited path before (drop i es)) ≡ found) where
    split : first (fault_where (inherited (folded e.id) || is_among before (folded e.id)) (fault e) ++ repeated_ids inherited path (before ++ folded e.id ∷ []) (drop (i + 1) es)) ≡ found
    split = ap (λ l. first (repeated_ids inherited path before l)) (sym (drop_here es i e h at)) ∙ left

    same : first (fault_where (inherited (folded e.id) || known) (fault e)) ≡ first (fault_where (inherited (folded e.id) || is_among before (folded e.id)) (fault e))
    same = ap (λ b. first (fault_where (inherited (folded e.id) || b) (fault e))) is

    pub ids_next : None ≡ first (fault_where (inherited (folded e.id) || known) (fault e)) → (next : List (List ℕ)) → before ++ folded e.id ∷ [] ≡ next → first (repeated_ids inherited path next (drop (i + 1) es)) ≡ found
    ids_next none next f =
        ap (λ l. first (repeated_ids inherited path l (drop (i + 1) es))) (sym f)
        ∙ sym (first_behind (fault_where (inherited (folded e.id) || is_among before (folded e.id)) (fault e)) (repeated_ids inherited path (before ++ folded e.id ∷ []) (drop (i + 1) es)) (sym same ∙ sym none))
        ∙ split

    ids_here : (f : FolderFault) → Some f ≡ first (fault_where (inherited (folded e.id) || known) (fault e)) → Some f ≡ found
    ids_here f g =
        sym (first_here (fault_where (inherited (folded e.id) || is_among before (folded e.id)) (fault e)) (repeated_ids inherited path (before ++ folded e.id ∷ []) (drop (i + 1) es)) f (sym same ∙ sym g))
        ∙ split

pub ids_refused : (T U : Type 0) (inherited : List ℕ → Bool) (path : List ℕ) (before : List (List ℕ)) (es : List FieldElement) (i : ℕ) (e : FieldElement) (h : i < length es) (at : e ≡ get_or es i e) (known : Bool)
    (is : known ≡ is_among before (folded e.id)) (found : Option FolderFault) → first (repeated_ids inherited path before (drop i es)) ≡ found
    → (a : TablesAnswer) → Finds {T = T} (λ o. o ≡ first (fault_where (inherited (folded e.id) || known) (fault_on 14 path e.line (folded e.id)))) (Err a) → Finds {T = U} (λ o. o ≡ found) (Err a)
ids_refused T U inherited path before es i e h at known is found left a f =
    err_weaker T U (λ o. o ≡ first (fault_where (inherited (folded e.id) || known) (fault_on 14 path e.line (folded e.id)))) (λ o. o ≡ found) (ids_here inherited path before es i e h at known is found left) a f
