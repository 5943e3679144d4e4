use Rattle.std.proofs.Common.{w32}
use Rattle.std.proofs.lemmas.Int.{to_z-of_z}
use Rattle.channel_run.proofs.LocalLemmas.{numbers_set}
use Rattle.channel_run.proofs.first_run.assign.Goals as goal

pub returns-in-Ok : goal.returns-in-Ok
returns-in-Ok c = numbers_set c.args.locals.now c.insert.new.self c.args.name.now c.args.number _ (to_z-of_z w32 c.args.number c.ranges.number) c.in-Ok.ensures.updates
