use Rattle.std.proofs.Common.{◌≡◌, ◌++◌, true, map, take}
use Rattle.channel_folder.specs.DeclaredFunctions.{source_of}
use Rattle.channel_folder.proofs.files.add_scripts.Given as goal

abbrev pub invariant-loop-script : goal.invariant-loop-script
invariant-loop-script l = l.sources ≡ l.fn.sources ++ map (source_of l.path true) (take l.script-index l.scripts)
