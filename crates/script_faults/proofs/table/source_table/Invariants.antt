use Rattle.std.proofs.Common.{◌≡◌, take}
use Rattle.folder_rules.specs.Scripts.{numbered}
use Rattle.script_faults.specs.Sources.{IsTableOf, function_count}
use Rattle.script_faults.proofs.table.source_table.Given as goal

abbrev pub invariant-loop-text : goal.invariant-loop-text
invariant-loop-text l = record {
  table : IsTableOf l.table (numbered 0 (take l.text-index l.sources));
  number : l.number ≡ function_count (take l.text-index l.sources);
}
