-- How a folder with a fault is refused.
use Rattle.std.specs.Prelude.{◌≡◌, ℕ, List, [], ◌∷◌, ◌++◌, Option, Some, None, Result, Ok, Err}
use Rattle.chan_values.specs.declared.folder_fault.FolderFault.{FolderFault}
use Rattle.outside.specs.Refusal.{refusal_text}
use Rattle.outside.specs.declared.files.FileBytes.{FileBytes}
use Rattle.outside.specs.declared.status.Status.{Status}
use Rattle.outside.specs.declared.status.Status.TheVariants as status
use Rattle.folder_files.specs.declared.answer.FolderAnswer.{FolderAnswer}
use Rattle.folder_files.specs.declared.answer.FolderAnswer.TheVariants.{Fault, ReadFault, NoMemory}
use Rattle.channel_folder.specs.FolderFaults.{IsFirstFault}

-- the files have no fault, or this is their first; unless a read failed or memory ran out
abbrev pub ChecksAs : List FileBytes → Result (List FileBytes) FolderAnswer → Type 0
ChecksAs files (Ok listing) = (listing ≡ files) × IsFirstFault files None
ChecksAs files (Err (Fault fault)) = IsFirstFault files (Some fault)
ChecksAs files (Err ReadFault) = Unit {0}
ChecksAs files (Err NoMemory) = Unit {0}

-- the line that is written for a folder with this first fault
abbrev pub refusal_line : FolderFault → List ℕ
refusal_line fault = refusal_text fault ++ 10 ∷ []

-- the fault for which an answer refuses the folder
abbrev pub refused_for : Status → Option FolderFault
refused_for status.Done = None
refused_for (status.Refused fault) = Some fault
refused_for status.ChannelError = None
refused_for (status.BadScript line) = None
refused_for status.ReadFault = None
refused_for status.WriteFault = None
refused_for status.DoorFault = None
refused_for status.BadWords = None
refused_for status.NoMemory = None
refused_for status.NotYet = None
