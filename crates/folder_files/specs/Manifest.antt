-- What a manifest's lines have to be.
use Rattle.std.specs.Prelude.{ℕ, Bool, true, ◌||◌, ◌+◌, ◌==◌, List, [], ◌∷◌, ◌++◌, reverse, if◌then◌else◌, codes, Option, Some, None, slice_get}
use Rattle.std.specs.List.{list_any, list_all, slice_split}
use Rattle.chan_values.specs.declared.folder_fault.FolderFault.{FolderFault}
use Rattle.outside.specs.declared.files.FileBytes.{FileBytes}
use Rattle.outside.specs.Folder.{content_of}
use Rattle.folder_files.specs.SizeFaults.{fault_of}

-- a space, a tab or a CR
abbrev pub is_space : ℕ → Bool
is_space b = b == 32 || (b == 9 || b == 13)

abbrev pub without_first_spaces : List ℕ → List ℕ
without_first_spaces [] = []
without_first_spaces (b ∷ line) = if is_space b then without_first_spaces line else b ∷ line

-- without the spaces, tabs and CR at its ends
abbrev pub trimmed : List ℕ → List ℕ
trimmed line = reverse (without_first_spaces (reverse (without_first_spaces line)))

-- a trimmed line is empty, a comment, which begins with `#`, or has a `=` after its first byte
abbrev pub is_good_trimmed : List ℕ → Bool
is_good_trimmed [] = true
is_good_trimmed (b ∷ more) = b == 35 || list_any (λ c. c == 61) more

abbrev pub is_good_line : List ℕ → Bool
is_good_line line = is_good_trimmed (trimmed line)

-- Lines end before an LF, and the last may lack it. Behind a last LF stands an empty line, which is good.
abbrev pub lines_of : List ℕ → List (List ℕ)
lines_of bytes = slice_split (λ b. b == 10) bytes

abbrev pub is_good_manifest : List ℕ → Bool
is_good_manifest bytes = list_all is_good_line (lines_of bytes)

abbrev pub line_fault : ℕ → FolderFault
line_fault line = record { number = 4; path = codes "manifest"; line = line; column = 0; name = [] }

-- the faults of these lines, of which the first has this number
abbrev pub line_faults : ℕ → List (List ℕ) → List FolderFault
line_faults number [] = []
line_faults number (line ∷ lines) = (if is_good_line line then [] else line_fault number ∷ []) ++ line_faults (number + 1) lines

-- of a folder without a manifest, and of one whose manifest holds these bytes
abbrev pub faults_of_manifest : Option (List ℕ) → List FolderFault
faults_of_manifest None = fault_of 3 [] ∷ []
faults_of_manifest (Some bytes) = line_faults 1 (lines_of bytes)

abbrev pub manifest_faults : List FileBytes → List FolderFault
manifest_faults files = faults_of_manifest (content_of files (codes "manifest"))

-- the first of these faults, where there is one
abbrev pub first_manifest_fault : List FileBytes → Option FolderFault
first_manifest_fault files = slice_get (manifest_faults files) 0
