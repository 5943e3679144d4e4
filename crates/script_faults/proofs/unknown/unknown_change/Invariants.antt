use Rattle.std.proofs.Common.{◌≡◌, None, length, take}
use Rattle.std.specs.Prelude.{option_map}
use Rattle.std.specs.List.{flat_map}
use Rattle.folder_rules.specs.ScriptFaults.{change_function}
use Rattle.script_faults.specs.Named.{named_of, unknown_after}
use Rattle.script_faults.specs.Rows.{has_function}
use Rattle.script_faults.proofs.unknown.unknown_change.Given as goal

abbrev pub invariant-loop-field : goal.invariant-loop-field
invariant-loop-field l = option_map named_of l.unknown ≡ unknown_after (has_function (length l.scope.rows.now) l.scope.rows.now l.scope.kind) None (flat_map change_function (take l.field-index l.fields))
