use Rattle.std.proofs.Common.{take}
use Rattle.component_sources.specs.ComponentFaults.{AreGoodScripts, inline_scripts}
use Rattle.component_sources.proofs.component.read_scripts.Given as goal

abbrev pub invariant-loop-script : goal.invariant-loop-script
invariant-loop-script l = AreGoodScripts (inline_scripts (take l.script-index l.scripts)) l.trees
