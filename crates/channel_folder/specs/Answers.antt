-- What the check of a folder answers.
use Rattle.std.specs.Prelude.{◌≡◌, Option, Some, None, Result, Ok, Err}
use Rattle.chan_values.specs.declared.folder_fault.FolderFault.{FolderFault}
use Rattle.folder_rules.specs.declared.answer.TablesAnswer.{TablesAnswer}
use Rattle.folder_rules.specs.declared.answer.TablesAnswer.TheVariants as tables
use Rattle.channel_folder.specs.declared.answer.CheckAnswer.{CheckAnswer}
use Rattle.channel_folder.specs.declared.answer.CheckAnswer.TheVariants.{Fault, NoMemory}

-- this fault, unless memory ran out
abbrev pub Refuses : FolderFault → CheckAnswer → Type 0
Refuses fault (Fault found) = found ≡ fault
Refuses fault NoMemory = Unit {0}

-- the first fault is found, or that there is none, unless memory ran out
abbrev pub Finds : {T : Type 0} → (Option FolderFault → Type 0) → Result T CheckAnswer → Type 0
Finds IsFound (Ok t) = IsFound None
Finds IsFound (Err (Fault fault)) = IsFound (Some fault)
Finds IsFound (Err NoMemory) = Unit {0}

-- the answer of a check of the components, as the check of the folder hands it on
abbrev pub answer_of : TablesAnswer → CheckAnswer
answer_of (tables.Fault fault) = Fault fault
answer_of tables.NoMemory = NoMemory
