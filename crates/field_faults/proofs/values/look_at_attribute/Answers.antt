use Rattle.std.proofs.Common.{◌∙◌, ℕ, List, Some, ap, subst}
use Rattle.std.proofs.lemmas.Result.{IfOk-weaker}
use Rattle.chan_values.specs.Folded.{folded}
use Rattle.folder_rules.specs.Children.{own_tag}
use Rattle.folder_rules.specs.FieldFaults.{text_for}
use Rattle.field_faults.specs.Rows.{field_at}
use Rattle.field_faults.specs.Values.{attribute_text, type_there, LooksAt}
use Rattle.field_faults.proofs.values.look_at_attribute.Goals as goal

pub returns : goal.returns
returns c =
    let a = c.args.attribute.now in
    let tag = own_tag c.args.child.now in
    let rows = c.args.rows.now in
    let name = c.as_str-2.ensures.bytes ∙ c.in_ok-name.ensures ∙ ap folded (c.as_bytes.ensures.value ∙ c.as_str.ensures.bytes) in
    let holds = c.type_there-holds.ensures ∙ ap type_there (c.field_at.ensures ∙ ap (field_at rows c.args.kind) name) in
    IfOk-weaker c.look_at.result (λ found. (path : List ℕ) → LooksAt path (text_for path tag.line tag.column (folded a.name) c.type_there-holds.result (Some a.value)) c.args.first found)
    (λ found. (path : List ℕ) → LooksAt path (attribute_text rows c.args.kind path tag a) c.args.first found)
    (λ found h path. subst (λ t. LooksAt path (text_for path tag.line tag.column (folded a.name) t (Some a.value)) c.args.first found) holds (h path))
    c.look_at.ensures
