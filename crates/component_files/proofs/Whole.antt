-- Each text has one answer.
use Rattle.std.proofs.Common.{◌≡◌, ℕ, List, length, Result, Ok, Err, ◌⊎◌, inl, inr, refl, sym, ◌∙◌}
use Rattle.component_files.specs.declared.element.ComponentFile.{ComponentFile}
use Rattle.component_files.specs.declared.state.Progress.TheVariants.{Start}
use Rattle.component_files.specs.ComponentGrammar.{IsComponent, IsFirstFault, start_of_file, text_of_file}
use Rattle.component_files.specs.Scan.{scan}
use Rattle.component_files.proofs.Top.{found, right, faulty, fault_found}

one_ok : (f g : ComponentFile) → ◌≡◌ {A = Result ComponentFile ℕ} (Ok f) (Ok g) → f ≡ g
one_ok f g e = cc

one_err : (m n : ℕ) → ◌≡◌ {A = Result ComponentFile ℕ} (Err m) (Err n) → m ≡ n
one_err m n e = cc

no_ok : (f : ComponentFile) (n : ℕ) → ◌≡◌ {A = Result ComponentFile ℕ} (Ok f) (Err n) → ⊥
no_ok f n e = absurd (cc)

pub one_file : (bytes : List ℕ) (f g : ComponentFile) → IsComponent bytes f → IsComponent bytes g → f ≡ g
one_file bytes f g a b = one_ok f g (sym (found (start_of_file bytes) (text_of_file bytes) f a) ∙ found (start_of_file bytes) (text_of_file bytes) g b)

pub one_fault : (bytes : List ℕ) (m n : ℕ) → IsFirstFault bytes m → IsFirstFault bytes n → m ≡ n
one_fault bytes m n a b = one_err m n (sym (fault_found (start_of_file bytes) (text_of_file bytes) m a) ∙ fault_found (start_of_file bytes) (text_of_file bytes) n b)

pub never_both : (bytes : List ℕ) (f : ComponentFile) (n : ℕ) → IsComponent bytes f → IsFirstFault bytes n → ⊥
never_both bytes f n a b = no_ok f n (sym (found (start_of_file bytes) (text_of_file bytes) f a) ∙ fault_found (start_of_file bytes) (text_of_file bytes) n b)

pub file_or_fault : (bytes : List ℕ) → ((f : ComponentFile) × IsComponent bytes f) ⊎ ((n : ℕ) × IsFirstFault bytes n)
file_or_fault bytes = at (scan (length (text_of_file bytes)) Start (start_of_file bytes) (text_of_file bytes)) refl
  where
    at : (r : Result ComponentFile ℕ) → scan (length (text_of_file bytes)) Start (start_of_file bytes) (text_of_file bytes) ≡ r → ((f : ComponentFile) × IsComponent bytes f) ⊎ ((n : ℕ) × IsFirstFault bytes n)
    at (Ok f) e = inl (f, right (start_of_file bytes) (text_of_file bytes) f e)
    at (Err n) e = inr (n, faulty (start_of_file bytes) (text_of_file bytes) n e)
