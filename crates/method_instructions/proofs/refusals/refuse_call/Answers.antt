use Rattle.method_instructions.proofs.Calls.{call_is_refused}
use Rattle.method_instructions.proofs.refusals.refuse_call.Goals as goal

pub returns : goal.returns
returns c = call_is_refused c.args.heap.now c.args.frames.now c.args.count c.requires
