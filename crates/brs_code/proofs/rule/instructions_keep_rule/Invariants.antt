use Rattle.std.proofs.Common.{ℕ, ◌<◌, IfSome, slice_get}
use Rattle.brs_code.specs.Rule.{InstructionRule}
use Rattle.brs_code.proofs.rule.instructions_keep_rule.Given as goal

abbrev pub invariant-loop-at : goal.invariant-loop-at
invariant-loop-at l = (k : ℕ) → k < l.at → IfSome (slice_get l.f.code k) (InstructionRule l.f l.anonymous k)
