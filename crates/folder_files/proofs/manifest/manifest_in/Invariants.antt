use Rattle.std.proofs.Common.{◌≡◌, codes, drop}
use Rattle.outside.specs.Folder.{content_of}
use Rattle.folder_files.proofs.manifest.manifest_in.Given as goal

abbrev pub invariant-loop-file : goal.invariant-loop-file
invariant-loop-file l = content_of (drop l.file-index l.files) (codes "manifest") ≡ content_of l.files (codes "manifest")
