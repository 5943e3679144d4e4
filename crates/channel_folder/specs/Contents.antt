-- What the files of a channel's folder hold, or the first of their faults.
use Rattle.std.specs.Prelude.{◌≡◌, ◌⊎◌, List, [], ◌∷◌}
use Rattle.chan_values.specs.declared.folder_fault.FolderFault.{FolderFault}
use Rattle.outside.specs.declared.files.FileBytes.{FileBytes}
use Rattle.channel_folder.specs.declared.contents.Contents.{Contents}
use Rattle.channel_folder.specs.FileFaults.{HoldsAs, Holds, IsFaultOf, both, nothing, kind_of}
use Rattle.channel_folder.specs.declared.kind.FileKind.{FileKind}

-- no file has a fault, and they hold this, in order
abbrev pub Hold : List FileBytes → Contents → Type 0
Hold [] held = held ≡ nothing
Hold (file ∷ files) held = (here : Contents) × (more : Contents) × (Holds file here × Hold files more × (held ≡ both here more))

-- the first file that has a fault has this one
abbrev pub IsFirstOfFiles : List FileBytes → FolderFault → Type 0
IsFirstOfFiles [] fault = ⊥
IsFirstOfFiles (file ∷ files) fault = IsFaultOf file fault ⊎ ((here : Contents) × (Holds file here × IsFirstOfFiles files fault))

-- what a file of this kind holds was added
abbrev pub AddsAs : FileKind → FileBytes → Contents → Contents → Type 0
AddsAs kind file before now = (here : Contents) × (HoldsAs kind file here × (now ≡ both before here))

abbrev pub Adds : FileBytes → Contents → Contents → Type 0
Adds file before now = AddsAs (kind_of file.path) file before now
