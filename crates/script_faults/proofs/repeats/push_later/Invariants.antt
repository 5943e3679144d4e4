use Rattle.std.proofs.Common.{◌≡◌, ℕ, List, [], ◌++◌, map, take}
use Rattle.folder_rules.specs.Names.{is_among, is_known}
use Rattle.folder_rules.specs.ScriptFaults.{later_functions}
use Rattle.script_faults.specs.Functions.{functions_of}
use Rattle.script_faults.proofs.repeats.push_later.Given as goal

abbrev pub invariant-loop-function : goal.invariant-loop-function
invariant-loop-function l = record {
  known : (name : List ℕ) → is_known l.names name ≡ is_among (map (λ f. f.name) (functions_of (take l.function-index l.functions))) name;
  later : functions_of l.later.items ≡ functions_of l.initial.later.items ++ later_functions [] (functions_of (take l.function-index l.functions));
}
