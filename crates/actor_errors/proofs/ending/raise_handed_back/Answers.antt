use Rattle.actor_errors.proofs.Ends.{line_of, handed_back}
use Rattle.actor_errors.proofs.ending.raise_handed_back.Goals as goal

pub returns-clause-raises : goal.returns-clause-raises
returns-clause-raises c =
    handed_back c.args.error c.head-head.result.line c.args.heap.now c.raise.new.heap c.args.frames.now c.raise.new.frames c.raise.result (line_of c.args.frames.now c.head-head.result c.head-head.ensures) c.raise.ensures.raises.ended
