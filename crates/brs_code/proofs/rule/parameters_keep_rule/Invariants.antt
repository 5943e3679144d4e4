use Rattle.std.proofs.Common.{All, take}
use Rattle.brs_code.specs.Rule.{ParameterRule}
use Rattle.brs_code.proofs.rule.parameters_keep_rule.Given as goal

abbrev pub invariant-loop-x : goal.invariant-loop-x
invariant-loop-x l = All (ParameterRule l.f) (take l.x-index l.parameters)
