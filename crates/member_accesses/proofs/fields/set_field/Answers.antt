use Rattle.std.proofs.Common.{[], ◌∷◌, subst}
use Rattle.chan_values.specs.declared.access.Access.TheVariants.{Set}
use Rattle.member_accesses.specs.declared.reached.Reached.TheVariants as r
use Rattle.member_accesses.specs.Reaching.{Reaches}
use Rattle.member_accesses.specs.Fields.{field_write}
use Rattle.member_accesses.proofs.Nodes.{field_is_set, too_deep, too_large}
use Rattle.member_accesses.proofs.fields.set_field.Goals as goal

pub returns-in-Ok : goal.returns-in-Ok
returns-in-Ok c =
    subst (λ k. Reaches c.args.heap.now c.args.heap.now (c.args.v.now ∷ []) (r.Asks (Set c.args.node c.in_ok-field.field c.in-Ok.value)) (field_write c.args.node k)) c.in_ok-field.ensures
    (field_is_set c.args.heap.now c.args.v.now c.args.node c.in_ok-field.field c.in-Ok.value c.in-Ok.ensures.store)

pub returns-in-Err-TooDeep : goal.returns-in-Err-TooDeep
returns-in-Err-TooDeep c = too_deep c.args.heap.now c.args.v.now c.args.node c.args.field.now c.in-Err-TooDeep.field-0 c.cannot_leave.result c.in-Err-TooDeep.ensures.store c.in-Err-TooDeep.field-0-is c.cannot_leave.ensures

pub returns : goal.returns
returns c = too_large c.args.heap.now c.args.v.now c.args.node c.args.field.now c.in-Err-TooLarge.field-0 c.cannot_leave-in-Err-TooLarge.result c.in-Err-TooLarge.ensures.store c.in-Err-TooLarge.field-0-is c.cannot_leave-in-Err-TooLarge.ensures
