use Rattle.folder_rules.specs.Scripts.{numbered}
use Rattle.script_fault_tests.proofs.Indexed.{indexed}
use Rattle.script_fault_tests.proofs.checks.check_all.Goals as goal

pub check_scripts-requires : goal.check_scripts-requires
check_scripts-requires c = indexed c.in_ok-table.table (numbered 0 c.args.sources.now) c.in_ok-table.ensures

pub check_duplicate_functions-requires : goal.check_duplicate_functions-requires
check_duplicate_functions-requires c = indexed c.in_ok-table.table (numbered 0 c.args.sources.now) c.in_ok-table.ensures

pub check_functions-requires-clause-indexed : goal.check_functions-requires-clause-indexed
check_functions-requires-clause-indexed c = indexed c.in_ok-table.table (numbered 0 c.args.sources.now) c.in_ok-table.ensures
