use Rattle.std.proofs.Common.{All, take}
use Rattle.brs_code.specs.Rule.{FunctionRule}
use Rattle.brs_code.proofs.rule.functions_keep_rule.Given as goal

abbrev pub invariant-loop-f : goal.invariant-loop-f
invariant-loop-f l = All (FunctionRule l.anonymous) (take l.f-index l.functions)
