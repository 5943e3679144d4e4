use Rattle.std.specs.Prelude.{reverse}
use Rattle.frame_stack.proofs.CuttingLaws.{slot_view}
use Rattle.frame_stack.proofs.stack.FrameStack.set_slot.Goals as goal

pub returns-clause-set : goal.returns-clause-set
returns-clause-set c = slot_view c.self.inside.top c.in-Some.header (reverse c.self.inside.below.items) c.self.inside.operands c.self.inside.slots.items c.args.n c.args.v c.replace.new.dest c.args.self.now c.in-Some.is c.replace.ensures.after c.self.view_is
