use Rattle.std.proofs.Common.{◌≡◌, length, arith}
use Rattle.std.specs.Prelude.{reverse}
use Rattle.frame_stack.proofs.LayoutLaws.{last_values}
use Rattle.frame_stack.proofs.operands.Operands.last.Goals as goal

pub returns : goal.returns
returns c =
    let l : c.len.result ≡ length c.self.inside.values.items = omega (arith, c.len.ensures) in
    last_values c.self.inside.values.items c.as_slice.result.now (reverse c.self.inside.loops.items) c.args.self.now c.len.result c.args.n c.as_slice.ensures.value l c.self.view_is c.self.invariant c.requires
