use Rattle.std.proofs.Common.{◌≡◌, length, arith}
use Rattle.frame_stack.proofs.CuttingLaws.{count_is}
use Rattle.frame_stack.proofs.stack.FrameStack.call_count.Goals as goal

pub returns-in-Some : goal.returns-in-Some
returns-in-Some c =
    let l : c.len.result ≡ length c.self.inside.below.items = omega (arith, c.len.ensures) in
    count_is c.self.inside.top c.in-Some.field-0 c.self.inside.below.items c.self.inside.operands c.self.inside.slots.items c.args.self.now c.len.result c.in-Some.is l c.self.view_is
