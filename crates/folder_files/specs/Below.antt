-- The files of a channel's folder, as its check sees them.
use Rattle.std.specs.Prelude.{ℕ, List, [], map, unwrap_or}
use Rattle.outside.specs.declared.files.FileBytes.{FileBytes}
use Rattle.outside.specs.Folder.{whole_path, paths_below, content_of}

-- what the file of this path below the root holds
abbrev pub held_below : List ℕ → List FileBytes → List ℕ → List ℕ
held_below root files path = unwrap_or (content_of files (whole_path root path)) []

abbrev pub file_below : List ℕ → List FileBytes → List ℕ → FileBytes
file_below root files path = record { path = path; bytes = held_below root files path }

-- the files below the root that a channel is read from, by their paths relative to the root
abbrev pub files_below : List ℕ → List FileBytes → List FileBytes
files_below root files = map (file_below root files) (paths_below root files)
