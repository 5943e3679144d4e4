use Rattle.member_instructions.proofs.Settled.{waiting_head}
use Rattle.member_instructions.proofs.settling.wait.Goals as goal

pub returns : goal.returns
returns c = waiting_head c.args.landing c.args.line c.head-head.result c.args.frames.now c.set_head.new.self c.head-head.ensures c.set_head.ensures
