use Rattle.std.proofs.Common.{◌≡◌, List, [], length, take}
use Rattle.brs_code.specs.declared.function.Function.{Function}
use Rattle.code_lowering.specs.Lowered.{Begins, FileOf}
use Rattle.code_lowering.proofs.file.lowered.Given as goal

abbrev pub invariant-loop-draft : goal.invariant-loop-draft
invariant-loop-draft l = record {
  scopes : l.code.scopes ≡ [];
  stands : (all : List Function) → Begins Function l.code.anonymous all → FileOf all 0 (take l.draft-index l.drafts) l.code.named (length l.code.anonymous);
}
