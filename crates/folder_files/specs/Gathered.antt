-- What is known of the files that were read so far.
use Rattle.std.specs.Prelude.{◌≡◌, ℕ, ◌<◌, ◌≤◌, true, List, [], ◌∷◌, ◌++◌, map, sum_by, slice_get, Option, Some, None}
use Rattle.chan_values.specs.declared.folder_fault.FolderFault.{FolderFault}
use Rattle.outside.specs.declared.files.FileBytes.{FileBytes}
use Rattle.folder_files.specs.declared.gathered.Gathered.{Gathered as Read}
use Rattle.folder_files.specs.SizeFaults.{counted_bytes, too_long, has_too_many_bytes}

abbrev pub paths_of : List FileBytes → List (List ℕ)
paths_of files = map (λ file. file.path) files

-- the first, or else this
abbrev pub either : Option FolderFault → Option FolderFault → Option FolderFault
either (Some fault) other = Some fault
either None other = other

-- these files were read: their bytes are counted, the first that is too long is known, and where none is the files are there whole
pub record IsGathered (files : List FileBytes) (read : Read) : Type 0 where
  pub counted : read.counted ≡ sum_by counted_bytes files
  pub long : read.too_long ≡ slice_get (too_long files) 0
  pub whole : too_long files ≡ [] → read.files ≡ files

-- a file more
abbrev pub and_file : List FileBytes → List ℕ → List ℕ → List FileBytes
and_file files path bytes = files ++ record { path = path; bytes = bytes } ∷ []

-- all of the files were read, or so many that they have too many bytes
pub record IsReached (files : List FileBytes) (read : Read) : Type 0 where
  pub much : 16777216 < read.counted → has_too_many_bytes files ≡ true
  pub all : read.counted ≤ 16777216 → IsGathered files read

-- where none was too long, the files that are there are all that were read
abbrev pub IsWhole : Read → Type 0
IsWhole read = read.too_long ≡ None → IsGathered read.files read
