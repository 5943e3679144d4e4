use Rattle.std.proofs.Common.{◌≡◌, ◌++◌, take}
use Rattle.script_faults.specs.Sources.{sources_of}
use Rattle.script_faults.proofs.scripts.push_sources.Given as goal

abbrev pub invariant-loop-source : goal.invariant-loop-source
invariant-loop-source l = sources_of l.found.items ≡ sources_of l.initial.found.items ++ sources_of (take l.source-index l.sources)
