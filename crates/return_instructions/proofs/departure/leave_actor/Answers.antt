use Rattle.std.proofs.Common.{subst}
use Rattle.copy_meaning.specs.Forms.{form_in}
use Rattle.heap_meaning.specs.Stands.{meaning}
use Rattle.brs_copy.specs.Copies.{Copies}
use Rattle.moving_instructions.proofs.Going.{if_ok_then}
use Rattle.return_instructions.proofs.Departing.{copied_out, refused_out}
use Rattle.return_instructions.proofs.departure.leave_actor.Goals as goal

pub returns-in-Ok-clause-left : goal.returns-in-Ok-clause-left
returns-in-Ok-clause-left c = copied_out c.args.heap.now c.args.v c.args.place c.in-Ok.value
    (λ name store outside s b. subst (λ r. Copies (form_in store) 64 65536 (meaning name c.args.v) r) c.in-Ok.is (c.copy_out-copied.ensures.store name store outside s b))

pub returns-in-Err-clause-left : goal.returns-in-Err-clause-left
returns-in-Err-clause-left c =
    if_ok_then c.refused.result _ _
    (λ left is. refused_out c.args.heap.now c.args.v c.args.place c.in-Err.fault left is
    (λ name store outside s b. subst (λ r. Copies (form_in store) 64 65536 (meaning name c.args.v) r) c.in-Err.is (c.copy_out-copied.ensures.store name store outside s b)))
    c.refused.ensures
