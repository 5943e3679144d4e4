use Rattle.method_instructions.proofs.Calls.{member_is_refused}
use Rattle.method_instructions.proofs.refusals.refuse_member.Goals as goal

pub returns : goal.returns
returns c = member_is_refused c.args.heap.now c.args.frames.now c.args.count c.args.error c.requires
