-- What a check finds, under another name.
use Rattle.std.proofs.Common.{◌≡◌, Option, Some, None, Result, Ok, Err, sym, subst}
use Rattle.chan_values.specs.declared.folder_fault.FolderFault.{FolderFault}
use Rattle.folder_rules.specs.declared.answer.TablesAnswer.{TablesAnswer}
use Rattle.folder_rules.specs.declared.answer.TablesAnswer.TheVariants.{Fault, NoMemory}
use Rattle.folder_rules.specs.Answers.{Finds, Refuses}

-- of any answer
pub finds_weaker : {T : Type 0} (P Q : Option FolderFault → Type 0) → ((found : Option FolderFault) → P found → Q found) → (r : Result T TablesAnswer) → Finds P r → Finds Q r
finds_weaker P Q h (Ok t) p = h None p
finds_weaker P Q h (Err (Fault fault)) p = h (Some fault) p
finds_weaker P Q h (Err NoMemory) p = tt

-- of a refusal, with another value where there is none
pub err_weaker : (T U : Type 0) (P Q : Option FolderFault → Type 0) → ((fault : FolderFault) → P (Some fault) → Q (Some fault)) → (e : TablesAnswer) → Finds {T = T} P (Err e) → Finds {T = U} Q (Err e)
err_weaker T U P Q h (Fault fault) p = h fault p
err_weaker T U P Q h NoMemory p = tt

-- of a refusal that names its fault
pub err_refuses : (U : Type 0) (Q : Option FolderFault → Type 0) (fault : FolderFault) → Q (Some fault) → (e : TablesAnswer) → Refuses fault e → Finds {T = U} Q (Err e)
err_refuses U Q fault q (Fault found) same = subst (λ f. Q (Some f)) (sym same) q
err_refuses U Q fault q NoMemory same = tt
