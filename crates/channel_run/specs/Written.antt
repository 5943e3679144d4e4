-- What a command answers and wrote.
use Rattle.std.specs.Prelude.{◌≡◌, ℕ, List, [], ◌∷◌, ◌++◌, codes, Option, Some, None}
use Rattle.chan_values.specs.declared.folder_fault.FolderFault.{FolderFault}
use Rattle.outside.specs.declared.files.FileBytes.{FileBytes}
use Rattle.outside.specs.declared.status.Status.{Status}
use Rattle.outside.specs.declared.status.Status.TheVariants.{Done, Refused}
use Rattle.folder_files.specs.Below.{files_below}
use Rattle.channel_folder.specs.FolderFaults.{IsFirstFault}
use Rattle.channel_run.specs.declared.command.Work.{Work}
use Rattle.channel_run.specs.declared.command.Work.TheVariants.{Check, Run}
use Rattle.channel_run.specs.declared.script.Script.{Script}
use Rattle.channel_run.specs.Answer.{answer_of, run_text}
use Rattle.channel_run.specs.Command.{Command}
use Rattle.channel_run.specs.FirstFolder.{first_folder}
use Rattle.channel_run.specs.Refusal.{refusal_line}
use Rattle.channel_run.specs.Script.{ScriptSays}

abbrev pub good_line : List ℕ
good_line = codes "good" ++ 10 ∷ []

-- P holds of the answer and the text for files without a fault. For a run it does where the input is told and says a script.
abbrev pub ForGood : Work → List FileBytes → Option (List ℕ) → (Status → List ℕ → Type 0) → Type 0
ForGood Check files input P = P Done good_line
ForGood (Run bound) files input P =
    (bytes : List ℕ) (script : Script) → input ≡ Some bytes → ScriptSays bytes script
    → P (answer_of (first_folder files) script) (run_text (first_folder files) script bound)

-- the same for files with this first fault, or without one
abbrev pub ForFound : Work → List FileBytes → Option FolderFault → Option (List ℕ) → (Status → List ℕ → Type 0) → Type 0
ForFound work files (Some fault) input P = P (Refused fault) (refusal_line fault)
ForFound work files None input P = ForGood work files input P

-- P holds of the answer and the text of a command, where the map of the files is told
abbrev pub ForCommand : Command → Option (List FileBytes) → Option (List ℕ) → (Status → List ℕ → Type 0) → Type 0
ForCommand command files input P =
    (map : List FileBytes) (found : Option FolderFault) → files ≡ Some map → IsFirstFault (files_below command.root map) found
    → ForFound command.work (files_below command.root map) found input P

-- the bytes say a script
pub record HasScript (bytes : List ℕ) : Type 0 where
  pub script : Script
  pub says : ScriptSays bytes script
