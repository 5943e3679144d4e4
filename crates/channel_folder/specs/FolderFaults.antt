-- The faults of a channel's folder, seen as its files with their paths relative to it, ascending.
use Rattle.std.specs.Prelude.{◌≡◌, ◌⊎◌, List, [], ◌∷◌, Option, Some, None}
use Rattle.chan_values.specs.declared.folder_fault.FolderFault.{FolderFault}
use Rattle.outside.specs.declared.files.FileBytes.{FileBytes}
use Rattle.folder_files.specs.Manifest.{first_manifest_fault}
use Rattle.folder_files.specs.SizeFaults.{first_size_fault}
use Rattle.folder_rules.specs.FirstFault as components
use Rattle.channel_folder.specs.declared.contents.Contents.{Contents}
use Rattle.channel_folder.specs.Contents.{Hold, IsFirstOfFiles}

-- Kinds of faults, in their order: too many files or bytes, and files that are too long; a missing manifest, and its bad lines; what is wrong within one
-- file, where the first file with a fault gives it; and what is wrong between the components, which has an order of its own.
pub data Kinds : Type 0 where
  OfSizes : Kinds
  OfManifest : Kinds
  OfFiles : Kinds
  OfComponents : Kinds

abbrev pub all_kinds : List Kinds
all_kinds = OfSizes ∷ OfManifest ∷ OfFiles ∷ OfComponents ∷ []

-- the files have no fault of their own, or this is the first
abbrev pub IsFirstWithin : List FileBytes → Option FolderFault → Type 0
IsFirstWithin files None = (held : Contents) × Hold files held
IsFirstWithin files (Some fault) = IsFirstOfFiles files fault

-- of the kinds that speak of several components this is the first fault, where there is one
abbrev pub IsFirstBetween : List FileBytes → Option FolderFault → Type 0
IsFirstBetween files found = (held : Contents) × (Hold files held × components.IsFirstFault held.components held.sources found)

abbrev pub IsFirstOf : List FileBytes → Kinds → Option FolderFault → Type 0
IsFirstOf files OfSizes found = found ≡ first_size_fault files
IsFirstOf files OfManifest found = found ≡ first_manifest_fault files
IsFirstOf files OfFiles found = IsFirstWithin files found
IsFirstOf files OfComponents found = IsFirstBetween files found

-- A kind is looked at only where no kind before it has a fault.
abbrev pub IsFirstOfKinds : List FileBytes → List Kinds → Option FolderFault → Type 0
IsFirstOfKinds files [] found = found ≡ None
IsFirstOfKinds files (kind ∷ kinds) found =
    ((fault : FolderFault) × (IsFirstOf files kind (Some fault) × (found ≡ Some fault))) ⊎ (IsFirstOf files kind None × IsFirstOfKinds files kinds found)

-- this is the first fault of the folder, none where it has none
abbrev pub IsFirstFault : List FileBytes → Option FolderFault → Type 0
IsFirstFault files found = IsFirstOfKinds files all_kinds found
