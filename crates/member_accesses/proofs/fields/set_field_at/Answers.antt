use Rattle.std.proofs.Common.{sym, ap, ◌∙◌}
use Rattle.std.specs.Option.{option_copied}
use Rattle.object_operations.proofs.Answering.{through}
use Rattle.member_accesses.proofs.Nodes.{field_is_named}
use Rattle.member_accesses.proofs.fields.set_field_at.Goals as goal

pub returns-in-Some : goal.returns-in-Some
returns-in-Some c = through c.set_field.result (λ r y. field_is_named c.args.heap.now c.args.i.now c.args.v.now c.args.node c.in-Some.field.now r (sym c.text.ensures ∙ ap option_copied c.in-Some.is) y) c.set_field.ensures
