use Rattle.std.proofs.Common.{◌≡◌, take}
use Rattle.std.specs.List.{flat_map}
use Rattle.folder_rules.specs.Scripts.{functions_in}
use Rattle.script_faults.specs.Functions.{functions_of}
use Rattle.script_faults.specs.Sources.{sources_of}
use Rattle.script_faults.proofs.functions.all_functions.Given as goal

abbrev pub invariant-loop-source : goal.invariant-loop-source
invariant-loop-source l = functions_of l.functions.items ≡ flat_map functions_in (sources_of (take l.source-index l.sources))
