use Rattle.std.proofs.Common.{ap, ◌∙◌, sym}
use Rattle.chan_values.specs.Folded.{folded}
use Rattle.field_observers.specs.Registered.{registrations_of, of_field}
use Rattle.field_observers.proofs.Maps.{registrations-fields_at, node_had}
use Rattle.field_observers.proofs.observers.Observers.snapshot.Goals as goal

pub returns-in-Some : goal.returns-in-Some
returns-in-Some c =
    let name = c.as_slice.ensures.value ∙ c.in_ok-name.ensures in
    let there = ap (λ q. of_field c.in-Some.fields.now q) name
    ∙ sym (ap (λ s. registrations_of s c.args.node (folded c.args.field.now)) (sym c.self.view_is)
    ∙ registrations-fields_at c.self.inside.nodes c.args.node (folded c.args.field.now)
    ∙ node_had c.self.inside.nodes c.args.node c.in-Some.fields.now (sym c.in-Some.ensures.value) (folded c.args.field.now)) in
    rw there at c.targets.ensures
