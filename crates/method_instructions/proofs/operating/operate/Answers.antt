use Rattle.std.proofs.Common.{◌≡◌, length, ap, ◌∙◌, subst, arith}
use Rattle.object_operations.specs.Applies.{Applies}
use Rattle.brs_builtins.specs.Table.{applied}
use Rattle.frame_actions.specs.Actions.{dropped}
use Rattle.frame_actions.proofs.Holding.{still_there}
use Rattle.method_instructions.proofs.Doing.{error_found, value_given}
use Rattle.method_instructions.proofs.operating.operate.Goals as goal

pub push_value-requires : goal.push_value-requires
push_value-requires c =
    let e : length c.drop_to.new.frames ≡ length c.args.frames.now = ap length c.drop_to.ensures.frames ∙ still_there (dropped c.args.n c.place_behind-next.result) c.args.frames.now in
    omega (arith, c.requires.there)

pub returns-in-Raised-clause-ok : goal.returns-in-Raised-clause-ok
returns-in-Raised-clause-ok c =
    error_found c.args.heap.now c.apply.new.heap c.args.frames.now c.args.n c.args.arguments c.args.operation c.last.result.now c.in-Raised.error c.last.ensures
    (subst (λ r. Applies c.args.heap.now c.apply.new.heap c.last.result.now r (applied c.args.operation)) c.in-Raised.is c.in_ok-applied.ensures.answer)

pub returns-in_ok-push_value-in-Value-clause-ok : goal.returns-in_ok-push_value-in-Value-clause-ok
returns-in_ok-push_value-in-Value-clause-ok c =
    value_given c.args.heap.now c.apply.new.heap c.drop_to.new.heap c.args.frames.now c.drop_to.new.frames c.push_value.new.frames c.args.n c.args.arguments c.place_behind-next.result c.args.operation c.last.result.now c.in-Value.v c.last.ensures
    (subst (λ r. Applies c.args.heap.now c.apply.new.heap c.last.result.now r (applied c.args.operation)) c.in-Value.is c.in_ok-applied.ensures.answer) c.requires.there c.place_behind-next.ensures c.drop_to.ensures.carries c.drop_to.ensures.frames
    c.in_ok-push_value-in-Value.ensures.ok
