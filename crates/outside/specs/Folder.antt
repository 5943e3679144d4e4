-- Files by their whole paths, and which of those below a root a channel is read from.
use Rattle.std.specs.Prelude.{◌<◌, length, ◌-◌, slice_index_or, ◌≡◌, ℕ, Bool, ◌≤◌, ◌==◌, ◌&&◌, ◌||◌, nat_eq, nat_lt, nat_le, List, [], ◌∷◌, ◌++◌, length, map, filter_map, count_by, Option, None, Some, Result, Ok, Err, true, if◌then◌else◌, option_and_then, option_map, ⊤, codes}
use Rattle.std.specs.List.{AllByRecursion, starts_with, ends_with}
use Rattle.std.specs.List.Sorted.{IsStrictlySortedBy}
use Rattle.std.specs.Str.{bytes_eq}
use Rattle.std.specs.Char.{to_ascii_lowercase}
use Rattle.std.specs.Ordering.{nat_cmp}
use Rattle.std.specs.declared.cmp.Ordering.{Ordering}
use Rattle.std.specs.declared.cmp.Ordering.TheVariants.{Less, Equal, Greater}
use Rattle.std.specs.Cmp.Lexicographic.{slice_cmp}
use Rattle.outside.specs.declared.files.FileBytes.{FileBytes}
use Rattle.outside.specs.declared.files.FileRead.{FileRead}
use Rattle.outside.specs.declared.files.FileRead.TheVariants.{Whole, Longer}

-- at most eight parts
abbrev pub is_shallow : List ℕ → Bool
is_shallow path = nat_lt (count_by (λ c. c == 47) path) 8

-- the path ends in this, whatever the case of its letters
abbrev pub ends_in : List ℕ → List ℕ → Bool
ends_in ending path = ends_with nat_eq (map to_ascii_lowercase path) ending

-- a path of a channel's folder that is read: its manifest, its source files and its component files
abbrev pub is_read : List ℕ → Bool
is_read path = is_shallow path &&
    (bytes_eq path (codes "manifest")
    || (starts_with nat_eq path (codes "source/") && ends_in (codes ".brs") path)
    || (starts_with nat_eq path (codes "components/") && (ends_in (codes ".brs") path || ends_in (codes ".xml") path)))

-- what follows the prefix in a list that begins with it
abbrev pub after_prefix : List ℕ → List ℕ → Option (List ℕ)
after_prefix [] path = Some path
after_prefix (x ∷ xs) [] = None
after_prefix (x ∷ xs) (y ∷ ys) = if x == y then after_prefix xs ys else None

abbrev pub if_read : List ℕ → Option (List ℕ)
if_read path = if is_read path then Some path else None

-- the path of a file below the root, where it is read
abbrev pub below_root : List ℕ → List ℕ → Option (List ℕ)
below_root root path = option_and_then if_read (after_prefix (root ++ codes "/") path)

-- the whole path of what is listed below a root
abbrev pub whole_path : List ℕ → List ℕ → List ℕ
whole_path root path = root ++ codes "/" ++ path

-- the paths below a root that are read
abbrev pub paths_below : List ℕ → List FileBytes → List (List ℕ)
paths_below root files = filter_map (λ file. below_root root file.path) files

-- what the file of this path holds
abbrev pub content_of : List FileBytes → List ℕ → Option (List ℕ)
content_of [] path = None
content_of (file ∷ files) path = if bytes_eq file.path path then Some file.bytes else content_of files path

-- strictly ascending by bytes
abbrev pub IsAscending : List (List ℕ) → Type 0
IsAscending paths = IsStrictlySortedBy (slice_cmp nat_cmp) paths

-- the files are a map from paths to bytes
abbrev pub IsMap : List FileBytes → Type 0
IsMap files = IsAscending (map (λ file. file.path) files)

abbrev pub IsRead : List ℕ → Type 0
IsRead path = is_read path ≡ true

-- what a listing gives, for every folder
pub record IsListing (paths : List (List ℕ)) : Type 0 where
  pub ascending : IsAscending paths
  pub read : AllByRecursion IsRead paths

-- the path comes after the last of these
abbrev pub MayCome : List (List ℕ) → List ℕ → Type 0
MayCome paths path = 0 < length paths → slice_cmp nat_cmp (slice_index_or paths (length paths - 1) []) path ≡ Less

-- the path comes after the last of these, and is read
pub record MayFollow (paths : List (List ℕ)) (path : List ℕ) : Type 0 where
  pub after : MayCome paths path
  pub read : IsRead path

-- the bytes of a file up to the limit
abbrev pub read_of : ℕ → List ℕ → FileRead
read_of limit bytes = if nat_le (length bytes) limit then Whole bytes else Longer

abbrev pub IsWithin : ℕ → FileRead → Type 0
IsWithin limit (Whole bytes) = length bytes ≤ limit
IsWithin limit Longer = ⊤

-- a list that is told grows by this at its end, and one that is not told stays so
abbrev pub Grows : {X : Type 0} → Option (List X) → Option (List X) → List X → Type 0
Grows None now more = now ≡ None
Grows (Some xs) now more = now ≡ Some (xs ++ more)

-- where a file stands against the path, which has `more` behind it
abbrev pub appended_at : Ordering → List ℕ → List ℕ → FileBytes → List FileBytes → List FileBytes → List FileBytes
appended_at Less path bytes file files more = file ∷ more
appended_at Equal path bytes file files more = record file { bytes = file.bytes ++ bytes } ∷ files
appended_at Greater path bytes file files more = record { path = path; bytes = bytes } ∷ file ∷ files

-- the files with these bytes at the end of the file of this path, which is made at its place where it is missing
abbrev pub appended : List ℕ → List ℕ → List FileBytes → List FileBytes
appended path bytes [] = record { path = path; bytes = bytes } ∷ []
appended path bytes (file ∷ files) =
    appended_at (slice_cmp nat_cmp file.path path) path bytes file files (appended path bytes files)

-- `append` that succeeds appends, and any other changes nothing
abbrev pub FilesGrow : {T E : Type 0} → Result T E → List ℕ → List ℕ → Option (List FileBytes) → Option (List FileBytes) → Type 0
FilesGrow (Ok x) path bytes before now = now ≡ option_map (appended path bytes) before
FilesGrow (Err e) path bytes before now = now ≡ before
