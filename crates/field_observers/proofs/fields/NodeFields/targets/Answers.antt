use Rattle.std.proofs.Common.{◌∙◌, sym, ap, map}
use Rattle.std.specs.Option.{option_copied}
use Rattle.field_observers.specs.Registered.{of_field, target_of}
use Rattle.field_observers.proofs.Maps.{found_at, absent_at}
use Rattle.field_observers.proofs.fields.NodeFields.targets.Goals as goal

pub returns-in-Some : goal.returns-in-Some
returns-in-Some c =
    let there = sym (ap (λ s. of_field s c.args.name.now) (sym c.self.view_is) ∙ found_at c.self.inside.fields c.args.name.now c.in-Some.list.now (sym c.in-Some.ensures.value)) in
    rw (c.as_slice.ensures.value ∙ there) at c.targets_of.ensures

pub returns-in-None : goal.returns-in-None
returns-in-None c =
    let none = ap (λ s. of_field s c.args.name.now) (sym c.self.view_is) ∙ absent_at c.self.inside.fields c.args.name.now (sym c.get.ensures.value ∙ ap option_copied c.in-None.is) in
    c.new.ensures ∙ sym (ap (map target_of) none)
