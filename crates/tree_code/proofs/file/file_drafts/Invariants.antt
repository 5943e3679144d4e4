use Rattle.std.proofs.Common.{◌≡◌, map, take}
use Rattle.tree_code.specs.FileCode.{named_draft}
use Rattle.tree_code.proofs.file.file_drafts.Given as goal

abbrev pub invariant-loop-named : goal.invariant-loop-named
invariant-loop-named l = l.drafts ≡ map named_draft (take l.named-index l.named-items)
