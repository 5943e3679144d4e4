use Rattle.std.proofs.Common.{◌∙◌, ap}
use Rattle.folder_rules.specs.FieldFaults.{type_of}
use Rattle.folder_rules.specs.Kinds.{field_named, field_table}
use Rattle.field_faults.specs.Rows.{field_at}
use Rattle.field_faults.specs.Values.{type_there}
use Rattle.field_faults.proofs.RowTexts.{type_is}
use Rattle.field_faults.proofs.table.FieldTable.holds.Goals as goal

pub returns : goal.returns
returns c =
    let rows = c.self.inside.rows.items in
    let id = c.args.id.now in
    c.type_there.ensures
    ∙ ap type_there (c.field_at.ensures ∙ ap (λ l. field_at l c.get.result id) c.as_slice.ensures.value ∙ ap (λ place. field_at rows place id) c.get.ensures)
    ∙ type_is c.self.inside.names.now c.self.inside.components.now c.self.invariant.places rows c.self.invariant.are c.args.kind.now id
    ∙ ap (λ kinds. type_of (field_named (field_table kinds c.args.kind.now) id)) c.self.view_is
