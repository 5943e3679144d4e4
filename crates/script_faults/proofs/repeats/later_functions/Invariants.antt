use Rattle.std.proofs.Common.{◌≡◌, [], ◌++◌, take}
use Rattle.std.specs.List.{flat_map}
use Rattle.folder_rules.specs.ScriptFaults.{later_functions}
use Rattle.folder_rules.specs.Scripts.{own_functions, source_functions}
use Rattle.script_faults.specs.Functions.{functions_of}
use Rattle.script_faults.specs.Sources.{all_sources}
use Rattle.script_faults.proofs.repeats.later_functions.Given as goal

abbrev pub invariant-loop-component : goal.invariant-loop-component
invariant-loop-component l =
    functions_of l.later.items
    ≡ later_functions [] (source_functions (all_sources l.table)) ++ flat_map (λ c. later_functions [] (own_functions (all_sources l.table) c)) (take l.component-index l.components)
