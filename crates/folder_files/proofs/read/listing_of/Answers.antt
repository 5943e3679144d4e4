use Rattle.std.proofs.Common.{arith}
use Rattle.folder_files.proofs.Gathering.{decided_whole}
use Rattle.folder_files.proofs.read.listing_of.Goals as goal

pub returns-in-None-clause-told : goal.returns-in-None-clause-told
returns-in-None-clause-told c files few reached = decided_whole files c.args.gathered few reached (omega arith) c.in-None.is
