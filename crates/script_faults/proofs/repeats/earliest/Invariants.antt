use Rattle.std.proofs.Common.{◌≡◌, ◌≤◌, drop, length}
use Rattle.std.specs.Prelude.{option_map}
use Rattle.folder_rules.specs.Faults.{first, in_order}
use Rattle.folder_rules.specs.ScriptFaults.{is_earlier_function}
use Rattle.script_faults.specs.Functions.{function_of, functions_of}
use Rattle.script_faults.proofs.repeats.earliest.Given as goal

abbrev pub invariant-loop-left : goal.invariant-loop-left
invariant-loop-left l = record {
  within : l.left ≤ length l.functions;
  earliest : option_map function_of l.earliest ≡ first (in_order is_earlier_function (functions_of (drop l.left l.functions)));
}

abbrev pub decreases-loop-left : goal.decreases-loop-left
decreases-loop-left l = l.left
