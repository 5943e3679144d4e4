use Rattle.std.proofs.Common.{length}
use Rattle.std.specs.Prelude.{reverse}
use Rattle.frame_stack.specs.Operand.{each_of}
use Rattle.frame_stack.specs.Cutting.{headers_of}
use Rattle.frame_stack.proofs.Ends.{on_ok_then}
use Rattle.frame_stack.proofs.CuttingLaws.{pushed_view}
use Rattle.frame_stack.proofs.stack.FrameStack.push_each.Goals as goal

pub returns-clause-ok : goal.returns-clause-ok
returns-clause-ok c = on_ok_then c.push_each.result _ _ (λ e. pushed_view (headers_of c.self.inside.top (reverse c.self.inside.below.items)) (each_of c.args.each) c.self.inside.operands c.push_each.new.self c.self.inside.slots.items (length c.self.inside.slots.items) c.args.self.now e c.self.invariant.begin c.self.view_is) c.push_each.ensures.ok
