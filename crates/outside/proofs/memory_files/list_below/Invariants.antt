use Rattle.std.proofs.Common.{◌≡◌, ◌++◌, drop}
use Rattle.outside.specs.Folder.{paths_below}
use Rattle.outside.proofs.memory_files.list_below.Given as goal

abbrev pub invariant-loop-file : goal.invariant-loop-file
invariant-loop-file l = l.paths.items ++ paths_below l.root (drop l.file-index l.files) ≡ paths_below l.root l.files
