use Rattle.method_instructions.proofs.Calls.{number_is_refused}
use Rattle.method_instructions.proofs.refusals.refuse_number.Goals as goal

pub returns : goal.returns
returns c = number_is_refused c.args.heap.now c.args.frames.now c.args.count c.requires
