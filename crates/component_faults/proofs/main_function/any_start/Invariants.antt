use Rattle.std.proofs.Common.{◌≡◌, length}
use Rattle.std.specs.List.{list_any}
use Rattle.folder_rules.specs.ScriptFaults.{is_start}
use Rattle.component_faults.proofs.main_function.any_start.Given as goal

abbrev pub invariant-loop-functions : goal.invariant-loop-functions
invariant-loop-functions l = list_any is_start l.functions ≡ list_any is_start l.initial.functions

abbrev pub decreases-loop-functions : goal.decreases-loop-functions
decreases-loop-functions l = length l.functions
