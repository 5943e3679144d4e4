use Rattle.std.proofs.Common.{◌≡◌, ◌-◌, ap, ◌∙◌, length, take, arith}
use Rattle.plain_operations.proofs.Characters.{length_split, cut_text, boundary_text}
use Rattle.plain_operations.proofs.parts.front_of.Goals as goal

pub overflow_sub-s : goal.overflow_sub-s
overflow_sub-s c = omega (arith, length_split c.args.s.now c.args.n c.utf8.s, ap length c.rest_after.ensures)

pub range-requires-clause-end_boundary : goal.range-requires-clause-end_boundary
range-requires-clause-end_boundary c = boundary_text c.args.s.now c.rest_after.result.now c.args.n c.utf8.s c.rest_after.utf8 c.rest_after.ensures

pub returns : goal.returns
returns c =
    let n = length c.args.s.now - length c.rest_after.result.now in
    let z : n - 0 ≡ n = omega arith in
    c.range.ensures.value ∙ ap (λ k. take k c.args.s.now) z ∙ cut_text c.args.s.now c.rest_after.result.now c.args.n c.utf8.s c.rest_after.ensures
