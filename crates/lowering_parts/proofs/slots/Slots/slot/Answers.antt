use Rattle.std.proofs.Common.{Some, map, ap, ◌∙◌}
use Rattle.lowering_parts.specs.Names.{with_name}
use Rattle.lowering_parts.proofs.Keys.{stored_at, names_after}
use Rattle.lowering_parts.proofs.slots.Slots.slot.Goals as goal

pub returns-clause-at : goal.returns-clause-at
returns-clause-at c =
    let s = c.in-Ok-insert_full.ensures.stored in
    stored_at (λ v. v.items) c.insert_full.new.self.keys c.in-Ok-insert_full.slot s.0 c.in-Ok.copy.items s.1 s.2 ∙ ap Some c.in-Ok.ensures.items

pub returns-clause-names : goal.returns-clause-names
returns-clause-names c =
    ap (map (λ v. v.items)) c.in-Ok-insert_full.ensures.keys
    ∙ names_after (λ v. v.items) c.self.inside.names.keys c.in-Ok.copy
    ∙ ap (with_name (map (λ v. v.items) c.self.inside.names.keys)) c.in-Ok.ensures.items
    ∙ ap (λ names. with_name names c.args.name.now) c.self.view_is
