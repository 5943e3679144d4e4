-- What is known of the files of a folder without a fault.
use Rattle.std.proofs.Common.{◌≡◌, ℕ, Bool, true, false, ◌<◌, ◌≤◌, ◌&&◌, List, [], ◌∷◌, length, Option, None, Some, Err, codes, if◌then◌else◌, refl, sym, ap, ◌∙◌, subst, arith}
use Rattle.std.specs.Option.{ForSome}
use Rattle.std.specs.Str.{bytes_eq}
use Rattle.outside.specs.declared.files.FileBytes.{FileBytes}
use Rattle.outside.specs.declared.status.Status.TheVariants.{Done, Refused}
use Rattle.outside.specs.declared.status.Status.{Status}
use Rattle.chan_values.specs.declared.folder_fault.FolderFault.{FolderFault}
use Rattle.folder_files.specs.Below.{files_below}
use Rattle.folder_files.specs.declared.answer.FolderAnswer.{FolderAnswer}
use Rattle.folder_files.specs.declared.answer.FolderAnswer.TheVariants.{Fault}
use Rattle.folder_files.specs.SizeFaults.{first_size_fault}
use Rattle.folder_files.proofs.BadLines.{none_long}
use Rattle.channel_folder.specs.FolderFaults.{IsFirstFault}
use Rattle.channel_folder.proofs.FileTurns.{short_at}
use Rattle.channel_run.specs.Command.{Command}
use Rattle.channel_run.specs.FirstFolder.{first_source}
use Rattle.channel_run.specs.Refusal.{ChecksAs, refusal_line, refused_for}
use Rattle.channel_run.specs.Written.{ForGood, ForFound, ForCommand, good_line}
use Rattle.channel_run.specs.declared.command.Work.{Work}
use Rattle.channel_run.specs.declared.command.Work.TheVariants.{Check, Run}

chosen : (t : Bool) (a b : List ℕ) → (if t then Some a else None) ≡ Some b → a ≡ b
chosen true a b e = cc
chosen false a b e = absurd (cc)

-- Main's file has at most 1,048,576 bytes
pub short_source : (files : List FileBytes) (bytes : List ℕ) → first_size_fault files ≡ None → first_source files ≡ Some bytes → length bytes ≤ 1048576
short_source [] bytes none is = absurd (cc)
short_source (m ∷ []) bytes none is = absurd (cc)
short_source (m ∷ s ∷ []) bytes none is =
    let same = chosen (bytes_eq m.path (codes "manifest") && bytes_eq s.path (codes "source/main.brs")) s.bytes bytes is in
    subst (λ (b : List ℕ). length b ≤ 1048576) same (short_at (m ∷ s ∷ []) 1 s (none_long (m ∷ s ∷ []) none) (omega arith) refl)
short_source (m ∷ s ∷ (f ∷ files)) bytes none is = absurd (cc)

-- a folder has at most one first fault
abbrev pub OneFirst : Type 0
OneFirst = (files : List FileBytes) (a b : Option FolderFault) → IsFirstFault files a → IsFirstFault files b → a ≡ b

-- what holds of the refusal of a folder with a fault holds of the command
pub for_refused : OneFirst → (command : Command) (files : Option (List FileBytes)) (input : Option (List ℕ)) (fault : FolderFault) (P : Status → List ℕ → Type 0)
    → ForSome files (λ m. IsFirstFault (files_below command.root m) (Some fault)) → P (Refused fault) (refusal_line fault) → ForCommand command files input P
for_refused one command files input fault P told holds map found is first =
    subst (λ o. ForFound command.work (files_below command.root map) o input P) (one (files_below command.root map) (Some fault) found (told map is) first) holds

-- what holds of the files of a folder without a fault holds of the command
pub for_good : OneFirst → (command : Command) (files : Option (List FileBytes)) (input : Option (List ℕ)) (listing : List FileBytes) (P : Status → List ℕ → Type 0)
    → ForSome files (λ m. (listing ≡ files_below command.root m) × IsFirstFault (files_below command.root m) None) → ForGood command.work listing input P → ForCommand command files input P
for_good one command files input listing P told holds map found is first =
    let t = told map is in
    subst (λ o. ForFound command.work (files_below command.root map) o input P) (one (files_below command.root map) None found t.1 first)
    (subst (λ fs. ForGood command.work fs input P) t.0 holds)

-- ---- what is done with files without a fault

pub checked : (work : Work) (files : List FileBytes) (input : Option (List ℕ)) (P : Status → List ℕ → Type 0) → work ≡ Check → P Done good_line → ForGood work files input P
checked work files input P is holds = subst (λ w. ForGood w files input P) (sym is) holds

pub ran : (work : Work) (bound : ℕ) (read files : List FileBytes) (input : Option (List ℕ)) (P : Status → List ℕ → Type 0) → work ≡ Run bound → read ≡ files
    → ForGood (Run bound) read input P → ForGood work files input P
ran work bound read files input P is same holds = subst (λ w. ForGood w files input P) (sym is) (subst (λ fs. ForGood (Run bound) fs input P) same holds)

-- ---- for what a folder is refused

pub refused_by : (files : Option (List FileBytes)) (root : List ℕ) (answer : FolderAnswer) (fault : FolderFault) → answer ≡ Fault fault
    → ForSome files (λ m. ChecksAs (files_below root m) (Err answer)) → ForSome files (λ m. IsFirstFault (files_below root m) (Some fault))
refused_by files root answer fault same told map is = subst (λ a. ChecksAs (files_below root map) (Err a)) same (told map is)

pub refused_told : (files : Option (List FileBytes)) (root : List ℕ) (status : Status) (fault : FolderFault) → ForSome files (λ m. IsFirstFault (files_below root m) (Some fault))
    → status ≡ Refused fault → ForSome files (λ m. IsFirstFault (files_below root m) (refused_for status))
refused_told files root status fault told same map is = subst (λ s. IsFirstFault (files_below root map) (refused_for s)) (sym same) (told map is)

pub good_told : (files : Option (List FileBytes)) (root : List ℕ) (listing : List FileBytes) (status : Status)
    → ForSome files (λ m. (listing ≡ files_below root m) × IsFirstFault (files_below root m) None) → refused_for status ≡ None
    → ForSome files (λ m. IsFirstFault (files_below root m) (refused_for status))
good_told files root listing status told none map is = subst (IsFirstFault (files_below root map)) (sym none) (told map is).1
