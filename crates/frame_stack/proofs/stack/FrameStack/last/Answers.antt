use Rattle.std.proofs.Common.{◌∙◌}
use Rattle.std.specs.Prelude.{reverse}
use Rattle.frame_stack.specs.Cutting.{headers_of}
use Rattle.frame_stack.proofs.CuttingLaws.{last_of}
use Rattle.frame_stack.proofs.stack.FrameStack.last.Goals as goal

pub returns : goal.returns
returns c = c.last.ensures ∙ last_of (headers_of c.self.inside.top (reverse c.self.inside.below.items)) c.self.inside.operands c.self.inside.slots.items c.args.self.now c.args.n c.self.view_is c.requires
