use Rattle.std.proofs.Common.{◌∙◌, sym, ap, ◌++◌, ◌∷◌, [], if◌then◌else◌}
use Rattle.std.specs.Str.{bytes_eq}
use Rattle.field_observers.proofs.Maps.{nodes_changed, registrations-fields_at}
use Rattle.field_observers.proofs.observers.start.Goals as goal

pub returns-in-Ok-clause-ok : goal.returns-in-Ok-clause-ok
returns-in-Ok-clause-ok c =
    nodes_changed (λ rs. rs ++ c.args.registration ∷ []) c.args.nodes.now c.insert.new.self c.args.node c.args.name.items c.add.new.self
    (λ f. c.in_ok-add.ensures.ok f
    ∙ ap (λ rs. if bytes_eq c.args.name.items f then rs ++ c.args.registration ∷ [] else rs)
    (c.new-fields.ensures f ∙ sym (c.requires f) ∙ registrations-fields_at c.args.nodes.now c.args.node f))
    c.in-Ok.ensures.updates
