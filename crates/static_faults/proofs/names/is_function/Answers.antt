use Rattle.std.proofs.Common.{arith}
use Rattle.static_faults.specs.Parts.{function_name}
use Rattle.static_faults.proofs.NameLists.{among_more}
use Rattle.static_faults.proofs.names.is_function.Goals as goal

pub loop-x-preserved : goal.loop-x-preserved
loop-x-preserved c = among_more function_name _ _ c.args.before.now _ c.loop-x.x-index c.x-item.result (omega arith) c.x-item.is c.loop-x.invariant c.or_function-found.ensures
