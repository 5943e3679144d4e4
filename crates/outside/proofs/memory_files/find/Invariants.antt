use Rattle.std.proofs.Common.{◌≡◌, drop}
use Rattle.outside.specs.Folder.{content_of}
use Rattle.outside.proofs.memory_files.find.Given as goal

abbrev pub invariant-loop-file : goal.invariant-loop-file
invariant-loop-file l = content_of (drop l.file-index l.files) l.path ≡ content_of l.files l.path
