use Rattle.std.proofs.Common.{◌≡◌, ◌++◌, drop}
use Rattle.folder_rules.specs.Scripts.{script_sources}
use Rattle.script_faults.specs.Sources.{all_sources, sources_of}
use Rattle.script_faults.proofs.scripts.sources_with.Given as goal

abbrev pub invariant-loop-script : goal.invariant-loop-script
invariant-loop-script l =
    sources_of l.found.items ++ script_sources (all_sources l.table) l.path (sources_of l.inline) (drop l.script-index l.scripts)
    ≡ script_sources (all_sources l.table) l.path (sources_of l.fn.inline) l.scripts
