use Rattle.std.proofs.Common.{◌∙◌, sym, ap, ◌++◌, ◌∷◌, []}
use Rattle.field_observers.proofs.Maps.{fields_changed_seen}
use Rattle.field_observers.proofs.fields.NodeFields.start.Goals as goal

pub returns-in-Ok-clause-ok : goal.returns-in-Ok-clause-ok
returns-in-Ok-clause-ok c =
    fields_changed_seen (λ rs. rs ++ c.args.registration ∷ []) c.args.self.now c.self.inside.fields c.insert.new.self c.args.name.items c.put.new.list c.self.view_is
    (c.in_ok-put.ensures.ok ∙ ap (λ xs. xs ++ c.args.registration ∷ []) (c.new-list.ensures.items ∙ sym c.requires)) c.in-Ok.ensures.updates
