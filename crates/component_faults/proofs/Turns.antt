-- The turns of a loop that checks each item and stops at the first refusal.
use Rattle.std.proofs.Common.{◌≡◌, ℕ, ◌+◌, ◌<◌, ◌≤◌, List, Option, Some, None, Result, Ok, Err, length, drop, get_or}
use Rattle.std.specs.List.{flat_map}
use Rattle.chan_values.specs.declared.folder_fault.FolderFault.{FolderFault}
use Rattle.folder_rules.specs.declared.answer.TablesAnswer.{TablesAnswer}
use Rattle.folder_rules.specs.Answers.{Finds}
use Rattle.folder_rules.specs.Faults.{first}
use Rattle.folder_rules.proofs.Found.{err_weaker}
use Rattle.folder_rules.proofs.Lists.{each_here}

-- the faults are those of this list
abbrev pub FindsFirst : {T : Type 0} → List FolderFault → Result T TablesAnswer → Type 0
FindsFirst faults r = Finds (λ found. found ≡ first faults) r

-- what is left of a list has the first fault of the whole
abbrev pub Left : {A : Type 0} → (A → List FolderFault) → List A → ℕ → Type 0
Left f xs i = first (flat_map f (drop i xs)) ≡ first (flat_map f xs)

pub turn_refused : {A : Type 0} (T U : Type 0) (f : A → List FolderFault) (xs : List A) (i : ℕ) (x : A) → i < length xs → x ≡ get_or xs i x → Left f xs i
    → (e : TablesAnswer) → FindsFirst {T = T} (f x) (Err e) → FindsFirst {T = U} (flat_map f xs) (Err e)
turn_refused T U f xs i x h at left e found = err_weaker T U (λ o. o ≡ first (f x)) (λ o. o ≡ first (flat_map f xs)) (λ fault here. each_here f xs i x h at left fault here) e found
