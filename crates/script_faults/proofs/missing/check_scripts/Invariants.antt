use Rattle.component_faults.proofs.Turns.{Left}
use Rattle.script_faults.specs.Scripts.{missing_in}
use Rattle.script_faults.specs.Sources.{all_sources}
use Rattle.script_faults.proofs.missing.check_scripts.Given as goal

abbrev pub invariant-loop-component : goal.invariant-loop-component
invariant-loop-component l = Left (missing_in (all_sources l.table)) l.components l.component-index
