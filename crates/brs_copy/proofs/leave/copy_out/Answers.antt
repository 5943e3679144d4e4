use Rattle.brs_copy.proofs.Copying.{copies_meaning}
use Rattle.brs_copy.proofs.leave.copy_out.Goals as goal

pub returns-clause-store : goal.returns-clause-store
returns-clause-store c = copies_meaning c.args.heap.now c.args.v.now 64 65536 c.copy_within.result c.copy_within.ensures
