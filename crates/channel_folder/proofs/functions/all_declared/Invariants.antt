use Rattle.std.proofs.Common.{◌≡◌, map, take}
use Rattle.channel_folder.specs.DeclaredFunctions.{declared}
use Rattle.channel_folder.proofs.functions.all_declared.Given as goal

abbrev pub invariant-loop-function : goal.invariant-loop-function
invariant-loop-function l = l.all ≡ map declared (take l.function-index l.functions)
