use Rattle.std.proofs.Common.{length}
use Rattle.std.specs.Prelude.{reverse}
use Rattle.frame_stack.specs.Operand.{Holds}
use Rattle.frame_stack.specs.Cutting.{headers_of}
use Rattle.frame_stack.proofs.Ends.{on_ok_then}
use Rattle.frame_stack.proofs.CuttingLaws.{pushed_view}
use Rattle.frame_stack.proofs.stack.FrameStack.push.Goals as goal

pub returns-clause-ok : goal.returns-clause-ok
returns-clause-ok c = on_ok_then c.push.result _ _ (λ e. pushed_view (headers_of c.self.inside.top (reverse c.self.inside.below.items)) (Holds c.args.v) c.self.inside.operands c.push.new.self c.self.inside.slots.items (length c.self.inside.slots.items) c.args.self.now e c.self.invariant.begin c.self.view_is) c.push.ensures.ok
