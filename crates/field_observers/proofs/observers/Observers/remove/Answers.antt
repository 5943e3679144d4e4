use Rattle.std.proofs.Common.{◌<◌, ◌∙◌, length, refl, arith}
use Rattle.std.specs.Prelude.{filter}
use Rattle.field_observers.specs.Registered.{is_place, registrations_of}
use Rattle.field_observers.proofs.Maps.{nothing_left}
use Rattle.field_observers.proofs.observers.Observers.remove.Goals as goal

pub invariant_of-self : goal.invariant_of-self
invariant_of-self c = λ n f h.
    let longer : length c.self.inside.room.items < length f = omega (arith, c.fold_into.ensures.same) in
    c.unregister.ensures n f ∙ nothing_left (is_place _ _ n f) (filter (λ r. r.fixed)) (registrations_of c.self.inside.nodes.entries n f) refl (c.self.invariant n f longer)
