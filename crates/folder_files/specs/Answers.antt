-- What reading a folder answers.
use Rattle.std.specs.Prelude.{◌≡◌, ◌⊎◌, ℕ, List, [], ◌∷◌, Option, Some, None, Result, Ok, Err}
use Rattle.outside.specs.Causes.{Rises}
use Rattle.outside.specs.Folder.{Grows}
use Rattle.outside.specs.declared.files.FileBytes.{FileBytes}
use Rattle.folder_files.specs.declared.answer.FolderAnswer.{FolderAnswer}
use Rattle.folder_files.specs.declared.answer.FolderAnswer.TheVariants.{Fault, ReadFault, NoMemory}
use Rattle.folder_files.specs.SizeFaults.{first_size_fault}

-- a read fault comes exactly where the count of the files rose
abbrev pub CountsAnswer : {T : Type 0} → ℕ → ℕ → Result T FolderAnswer → Type 0
CountsAnswer before now (Ok x) = now ≡ before
CountsAnswer before now (Err (Fault fault)) = now ≡ before
CountsAnswer before now (Err ReadFault) = Rises before now
CountsAnswer before now (Err NoMemory) = now ≡ before

-- these files, where their sizes have no fault, and else the first fault; unless a read failed or memory ran out
abbrev pub ReadsAs : List FileBytes → Result (List FileBytes) FolderAnswer → Type 0
ReadsAs files (Ok listing) = (listing ≡ files) × (first_size_fault files ≡ None)
ReadsAs files (Err (Fault fault)) = first_size_fault files ≡ Some fault
ReadsAs files (Err ReadFault) = Unit {0}
ReadsAs files (Err NoMemory) = Unit {0}

-- no root but this one was listed, and this one at most once
abbrev pub ListsAtMost : Option (List (List ℕ)) → Option (List (List ℕ)) → List ℕ → Type 0
ListsAtMost before now root = (now ≡ before) ⊎ Grows before now (root ∷ [])
