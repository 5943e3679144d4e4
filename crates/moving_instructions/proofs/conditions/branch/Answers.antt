use Rattle.std.proofs.Common.{◌≡◌, length, refl, sym, ap, ◌∙◌, subst, true, false, arith}
use Rattle.frame_stack.specs.Frame.{without_operands}
use Rattle.frame_actions.proofs.Holding.{still_there}
use Rattle.moving_instructions.specs.Choices.{Branches}
use Rattle.moving_instructions.proofs.Choosing.{branch_row, no_truth}
use Rattle.moving_instructions.proofs.conditions.branch.Goals as goal

pub go_to-requires : goal.go_to-requires
go_to-requires c =
    let e : length c.take_truth.new.frames ≡ length c.args.frames.now = ap length c.take_truth.ensures.frames ∙ still_there (without_operands 1) c.args.frames.now in
    omega (arith, c.requires.there)

pub returns-in-None-clause-does : goal.returns-in-None-clause-does
returns-in-None-clause-does c =
    let e = sym c.take_truth.ensures.truth ∙ c.in-None.is in
    subst (λ held. Branches held false c.args.heap.now c.args.frames.now c.take_truth.new.heap c.take_truth.new.frames c.args.to) (sym e)
    (refl, no_truth c.args.heap.now c.args.frames.now c.args.to c.requires.operand e, c.take_truth.ensures.carries, c.take_truth.ensures.frames)

pub returns-in-Some-clause-does : goal.returns-in-Some-clause-does
returns-in-Some-clause-does c =
    let e = sym c.take_truth.ensures.truth ∙ c.in-Some.is in
    subst (λ held. Branches held true c.args.heap.now c.args.frames.now c.take_truth.new.heap c.go_to.new.frames c.args.to) (sym e) (
      refl,
      branch_row c.args.heap.now c.take_truth.new.heap c.args.frames.now c.take_truth.new.frames c.go_to.new.frames c.in-Some.b c.place_behind-next.result c.args.to c.chosen-place.result c.requires.operand c.place_behind-next.ensures e c.chosen-place.ensures
          c.take_truth.ensures.carries c.take_truth.ensures.frames c.go_to.ensures,
    )
