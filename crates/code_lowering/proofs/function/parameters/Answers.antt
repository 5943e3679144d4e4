use Rattle.std.proofs.Common.{Some, ap, refl, ◌∙◌, arith}
use Rattle.code_lowering.proofs.Growing.{grows_slot}
use Rattle.code_lowering.proofs.Snoc.{parameters_more, parameters_done}
use Rattle.code_lowering.proofs.function.parameters.Goals as goal

pub loop-i-preserved : goal.loop-i-preserved
loop-i-preserved c = parameters_more c.args.count c.args.all.now _ _ _ _ c.loop-i.i _ c.index-all-all.result _ (omega arith) refl c.index-all-all.is c.loop-i.invariant (grows_slot _ _ _ c.in_ok-slot.ensures.others) (c.in_ok-slot.ensures.at ∙ ap Some c.as_slice.ensures) refl c.saturating_sub.ensures c.in-Ok.ensures.ok

pub returns : goal.returns
returns c = parameters_done c.args.count c.args.all.now c.loop-i.tables c.loop-i.parameters c.loop-i.i (omega arith) c.loop-i.invariant
