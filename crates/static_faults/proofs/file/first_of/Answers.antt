use Rattle.std.proofs.Common.{arith}
use Rattle.static_faults.proofs.Files.{file_more}
use Rattle.static_faults.proofs.file.first_of.Goals as goal

pub loop-i-preserved : goal.loop-i-preserved
loop-i-preserved c =
    let fs = c.args.functions.now in
    let f = c.index-functions-i.result in
    file_more _ _ _ fs c.loop-i.i f (omega arith) c.index-functions-i.is c.loop-i.invariant c.named.ensures c.earlier-found.ensures
