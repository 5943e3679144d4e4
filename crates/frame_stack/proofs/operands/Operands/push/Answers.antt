use Rattle.std.specs.Prelude.{reverse}
use Rattle.frame_stack.proofs.LayoutLaws.{pushed_laid}
use Rattle.frame_stack.proofs.operands.Operands.push.Goals as goal

pub invariant_of-self-2 : goal.invariant_of-self-2
invariant_of-self-2 c = pushed_laid c.args.v c.self.inside.values.items c.reserve.new.self.items c.push_reserved.new.self.items (reverse c.self.inside.loops.items) c.reserve.ensures.items c.push_reserved.ensures.items c.self.invariant
