use Rattle.std.proofs.Common.{◌<◌, length, sym, ap, subst, ◌∙◌}
use Rattle.std.specs.Prelude.{reverse}
use Rattle.frame_stack.specs.Operand.{operand_of}
use Rattle.frame_stack.specs.Frame.{operands_of}
use Rattle.frame_stack.specs.Cutting.{headers_of}
use Rattle.frame_stack.proofs.CuttingLaws.{popped}
use Rattle.frame_stack.proofs.stack.FrameStack.pop.Goals as goal

pub returns-clause-taken : goal.returns-clause-taken
returns-clause-taken c =
    let p = popped (headers_of c.self.inside.top (reverse c.self.inside.below.items)) (operand_of c.pop.result) c.self.inside.operands c.pop.new.self c.self.inside.slots.items (length c.self.inside.slots.items) c.pop.ensures c.self.invariant.begin (subst (λ f. 0 < length (operands_of f)) (sym c.self.view_is) c.requires) in
    ap operands_of (sym c.self.view_is) ∙ p.taken
