use Rattle.std.proofs.Common.{◌≡◌, ◌++◌, map, take, drop}
use Rattle.brs_code.specs.Join.{moved}
use Rattle.brs_code.proofs.functions.FunctionList.move_behind.Given as goal

abbrev pub invariant-loop-function : goal.invariant-loop-function
invariant-loop-function l =
    l.function-items ≡ map (moved l.path l.before) (take l.function-index l.initial.function-items) ++ drop l.function-index l.initial.function-items
