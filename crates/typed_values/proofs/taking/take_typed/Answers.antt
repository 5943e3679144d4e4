use Rattle.std.proofs.Common.{Some, None, subst}
use Rattle.typed_values.specs.Taken.{TypedAs}
use Rattle.typed_values.proofs.Fits.{last_taken, hands_as, carries_back}
use Rattle.typed_values.proofs.taking.take_typed.Goals as goal

pub returns-in-Ok-clause-takes : goal.returns-in-Ok-clause-takes
returns-in-Ok-clause-takes c =
    let fits = subst (λ r. TypedAs c.args.kind c.take_value-v.new.heap c.take_value-v.result r) c.in-Ok.is c.typed.ensures in (
      last_taken c.args.kind c.args.heap.now c.take_value-v.new.heap c.args.frames.now c.take_value-v.new.frames c.take_value-v.result (Some c.in-Ok.taken) c.take_value-v.ensures.hands c.take_value-v.ensures.value fits.0,
      hands_as c.args.heap.now c.take_value-v.new.heap c.args.frames.now c.take_value-v.new.frames c.take_value-v.result c.in-Ok.taken c.take_value-v.ensures.hands fits.1,
    )

pub returns-in-Err-clause-takes : goal.returns-in-Err-clause-takes
returns-in-Err-clause-takes c =
    let fits = subst (λ r. TypedAs c.args.kind c.take_value-v.new.heap c.take_value-v.result r) c.in-Err.is c.typed.ensures in (
      last_taken c.args.kind c.args.heap.now c.take_value-v.new.heap c.args.frames.now c.take_value-v.new.frames c.take_value-v.result None c.take_value-v.ensures.hands c.take_value-v.ensures.value fits.0,
      carries_back c.args.heap.now c.take_value-v.new.heap c.release.new.self c.args.frames.now c.take_value-v.new.frames c.take_value-v.result c.in-Err.back c.take_value-v.ensures.hands fits.1 c.release.ensures.moves,
    )
