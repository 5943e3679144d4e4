use Rattle.std.proofs.Common.{◌≡◌, take}
use Rattle.folder_rules.specs.Scripts.{source_functions}
use Rattle.script_faults.specs.Functions.{functions_of}
use Rattle.script_faults.specs.Sources.{sources_of}
use Rattle.script_faults.proofs.functions.functions_in_source.Given as goal

abbrev pub invariant-loop-source : goal.invariant-loop-source
invariant-loop-source l = functions_of l.functions.items ≡ source_functions (sources_of (take l.source-index l.sources))
