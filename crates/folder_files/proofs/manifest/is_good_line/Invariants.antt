use Rattle.std.proofs.Common.{◌≡◌, length}
use Rattle.folder_files.proofs.ManifestLines.{is_good_from}
use Rattle.folder_files.proofs.manifest.is_good_line.Given as goal

abbrev pub invariant-loop-rest : goal.invariant-loop-rest
invariant-loop-rest l = is_good_from l.line ≡ is_good_from l.rest

abbrev pub decreases-loop-rest : goal.decreases-loop-rest
decreases-loop-rest l = length l.rest
