use Rattle.std.proofs.Common.{◌≡◌, ◌++◌, take}
use Rattle.folder_rules.specs.Scripts.{functions_from}
use Rattle.script_faults.specs.Functions.{functions_of}
use Rattle.script_faults.proofs.functions.push_declared.Given as goal

abbrev pub invariant-loop-place : goal.invariant-loop-place
invariant-loop-place l = functions_of l.functions.items ≡ functions_of l.initial.functions.items ++ functions_from l.first l.path (take l.place l.all)
