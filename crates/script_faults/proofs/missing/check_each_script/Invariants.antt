use Rattle.folder_rules.specs.ScriptFaults.{missing_script}
use Rattle.component_faults.proofs.Turns.{Left}
use Rattle.script_faults.specs.Sources.{all_sources}
use Rattle.script_faults.proofs.missing.check_each_script.Given as goal

abbrev pub invariant-loop-script : goal.invariant-loop-script
invariant-loop-script l = Left (missing_script (all_sources l.table) l.path) l.scripts l.script-index
