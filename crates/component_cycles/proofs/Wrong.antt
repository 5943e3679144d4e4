-- The turns of a loop that looks for the first that is wrong.
use Rattle.std.proofs.Common.{◌≡◌, ℕ, ◌+◌, ◌<◌, ◌≤◌, ◌⊎◌, inl, inr, List, [], ◌∷◌, Option, Some, None, Result, Ok, Err, length, drop, get_or, refl, sym, subst}
use Rattle.chan_values.specs.declared.folder_fault.FolderFault.{FolderFault}
use Rattle.folder_rules.specs.declared.answer.TablesAnswer.{TablesAnswer}
use Rattle.folder_rules.specs.Answers.{Finds}
use Rattle.folder_rules.specs.FirstFault.{IsFirstWrong}
use Rattle.folder_rules.proofs.Found.{err_weaker}
use Rattle.folder_rules.proofs.Lists.{drop_here, drop_end}
use Rattle.component_cycles.specs.Judged.{Judged}

-- what is left of a list has the first wrong one of the whole
abbrev pub LeftWrong : {A : Type 0} → (A → Type 0) → (A → FolderFault) → List A → ℕ → Type 0
LeftWrong wrong fault xs i = (found : Option FolderFault) → IsFirstWrong wrong fault (drop i xs) found → IsFirstWrong wrong fault xs found

right : (wrong : Type 0) (fault : FolderFault) → Judged wrong fault None → wrong → ⊥
right wrong fault (inl w) = absurd cc
right wrong fault (inr n) = n.0

module _ {A : Type 0} (wrong : A → Type 0) (fault : A → FolderFault) (xs : List A) (i : ℕ) where
  pub wrong_next : (x : A) → i < length xs → x ≡ get_or xs i x → LeftWrong wrong fault xs i → Judged (wrong x) (fault x) None → LeftWrong wrong fault xs (i + 1)
  wrong_next x h at left judged = λ found f. left found (subst (λ l. IsFirstWrong wrong fault l found) (sym (drop_here xs i x h at)) (inr (right (wrong x) (fault x) judged, f)))

  here : (x : A) (f : FolderFault) → Judged (wrong x) (fault x) (Some f) → IsFirstWrong wrong fault (x ∷ drop (i + 1) xs) (Some f)
  here x f (inl w) = inl w
  here x f (inr n) = absurd cc

  pub wrong_refused : (T U : Type 0) (x : A) → i < length xs → x ≡ get_or xs i x → LeftWrong wrong fault xs i → (e : TablesAnswer) → Finds {T = T} (Judged (wrong x) (fault x)) (Err e) → Finds {T = U} (IsFirstWrong wrong fault xs) (Err e)
  wrong_refused T U x h at left e judged = err_weaker T U (Judged (wrong x) (fault x)) (IsFirstWrong wrong fault xs) (λ f j. left (Some f) (subst (λ l. IsFirstWrong wrong fault l (Some f)) (sym (drop_here xs i x h at)) (here x f j))) e judged

  pub wrong_end : length xs ≤ i → LeftWrong wrong fault xs i → IsFirstWrong wrong fault xs None
  wrong_end h left = left None (subst (λ l. IsFirstWrong wrong fault l None) (sym (drop_end xs i h)) refl)

-- the same are wrong
pub first_wrong_same : {A : Type 0} (wrong bad : A → Type 0) (fault : A → FolderFault) → ((x : A) → wrong x → bad x) → ((x : A) → bad x → wrong x) → (xs : List A) (found : Option FolderFault) → IsFirstWrong wrong fault xs found → IsFirstWrong bad fault xs found
first_wrong_same wrong bad fault to from [] found f = f
first_wrong_same wrong bad fault to from (x ∷ xs) found (inl w) = inl (to x w.0, w.1)
first_wrong_same wrong bad fault to from (x ∷ xs) found (inr n) = inr ((λ b. n.0 (from x b)), first_wrong_same wrong bad fault to from xs found n.1)
