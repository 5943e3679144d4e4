-- A table of source texts finds them by path.
use Rattle.std.proofs.Common.{◌≡◌, List, sym, subst}
use Rattle.folder_rules.specs.Scripts.{Source}
use Rattle.script_faults.specs.declared.table.SourceTable.{SourceTable}
use Rattle.script_faults.specs.Sources.{IsTableOf, IsIndexed}

pub indexed : (table : SourceTable) (sources : List Source) → IsTableOf table sources → IsIndexed table
indexed table sources is = subst (IsTableOf table) (sym is.all) is
