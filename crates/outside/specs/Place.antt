-- Where a path stands among ascending files.
use Rattle.std.specs.Prelude.{◌≡◌, ℕ, ◌<◌, ◌≤◌, List, length, slice_index_or}
use Rattle.std.specs.Ordering.{nat_cmp}
use Rattle.std.specs.declared.cmp.Ordering.TheVariants.{Less, Equal, Greater}
use Rattle.std.specs.Cmp.Lexicographic.{slice_cmp}
use Rattle.outside.specs.declared.files.FileBytes.{FileBytes}

-- the first files, so many, come before the path
abbrev pub ComeBefore : List FileBytes → List ℕ → ℕ → Type 0
ComeBefore files path n =
    (k : ℕ) (d : FileBytes) → k < n → slice_cmp nat_cmp (slice_index_or files k d).path path ≡ Less

-- the file at this place has the path
pub record IsPlaceOf (files : List FileBytes) (path : List ℕ) (at : ℕ) : Type 0 where
  pub in_range : at < length files
  pub before : ComeBefore files path at
  pub here : (d : FileBytes) → slice_cmp nat_cmp (slice_index_or files at d).path path ≡ Equal

-- no file has the path, and one with it would stand at this place
pub record IsGapFor (files : List FileBytes) (path : List ℕ) (at : ℕ) : Type 0 where
  pub in_range : at ≤ length files
  pub before : ComeBefore files path at
  pub after : (d : FileBytes) → at < length files → slice_cmp nat_cmp (slice_index_or files at d).path path ≡ Greater
