use Rattle.std.proofs.Common.{◌≡◌, length}
use Rattle.std.specs.List.{list_any}
use Rattle.folder_rules.specs.ScriptFaults.{has_start}
use Rattle.component_faults.proofs.main_function.any_has_start.Given as goal

abbrev pub invariant-loop-sources : goal.invariant-loop-sources
invariant-loop-sources l = list_any has_start l.sources ≡ list_any has_start l.initial.sources

abbrev pub decreases-loop-sources : goal.decreases-loop-sources
decreases-loop-sources l = length l.sources
