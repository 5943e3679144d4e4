-- What a check of one item answers: the fault where the item is wrong, and none where it isn't.
use Rattle.std.specs.Prelude.{◌≡◌, ◌⊎◌, Option, Some, None}
use Rattle.chan_values.specs.declared.folder_fault.FolderFault.{FolderFault}

abbrev pub Judged : Type 0 → FolderFault → Option FolderFault → Type 0
Judged wrong fault found = (wrong × (found ≡ Some fault)) ⊎ ((wrong → ⊥) × (found ≡ None))
