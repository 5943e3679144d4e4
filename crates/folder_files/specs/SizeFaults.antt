-- Faults of a folder that has too many files or bytes, or a file that is too long.
use Rattle.std.specs.Prelude.{ℕ, Bool, ◌||◌, if◌then◌else◌, nat_lt, min, List, [], ◌∷◌, ◌++◌, length, map, filter, sum_by, Option, slice_get}
use Rattle.chan_values.specs.declared.folder_fault.FolderFault.{FolderFault}
use Rattle.outside.specs.declared.files.FileBytes.{FileBytes}

-- a fault that gives a path at most
abbrev pub fault_of : ℕ → List ℕ → FolderFault
fault_of number path = record { number = number; path = path; line = 0; column = 0; name = [] }

-- what a file adds to the bytes in all: one that is too long adds one byte more than the longest
abbrev pub counted_bytes : FileBytes → ℕ
counted_bytes file = min (length file.bytes) 1048577

abbrev pub has_too_many_files : List FileBytes → Bool
has_too_many_files files = nat_lt 4096 (length files)

abbrev pub has_too_many_bytes : List FileBytes → Bool
has_too_many_bytes files = nat_lt 16777216 (sum_by counted_bytes files)

-- more than 4,096 files, or more than 16,777,216 bytes in all
abbrev pub is_too_much : List FileBytes → Bool
is_too_much files = has_too_many_files files || has_too_many_bytes files

abbrev pub too_much : List FileBytes → List FolderFault
too_much files = if is_too_much files then fault_of 1 [] ∷ [] else []

-- more than 1,048,576 bytes
abbrev pub is_too_long : FileBytes → Bool
is_too_long file = nat_lt 1048576 (length file.bytes)

abbrev pub too_long : List FileBytes → List FolderFault
too_long files = map (λ file. fault_of 2 file.path) (filter is_too_long files)

-- the first of these faults, where there is one
abbrev pub first_size_fault : List FileBytes → Option FolderFault
first_size_fault files = slice_get (too_much files ++ too_long files) 0
