use Rattle.std.proofs.Common.{◌≡◌, length, map, take}
use Rattle.std.specs.Prelude.{option_map}
use Rattle.folder_rules.specs.ScriptFaults.{interface_function}
use Rattle.script_faults.specs.Named.{named_of, unknown_after}
use Rattle.script_faults.specs.Rows.{has_function}
use Rattle.script_faults.proofs.unknown.with_interface.Given as goal

abbrev pub invariant-loop-function : goal.invariant-loop-function
invariant-loop-function l = option_map named_of l.unknown ≡ unknown_after (has_function (length l.scope.rows.now) l.scope.rows.now l.scope.kind) (option_map named_of l.fn.so_far) (map interface_function (take l.function-index l.functions))
