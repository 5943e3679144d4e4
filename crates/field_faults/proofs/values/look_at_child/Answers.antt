use Rattle.std.proofs.Common.{◌∙◌, ℕ, List, ap, subst}
use Rattle.std.specs.List.{flat_map}
use Rattle.std.proofs.lemmas.Result.{IfOk-weaker}
use Rattle.chan_values.specs.Folded.{folded}
use Rattle.folder_rules.specs.Children.{own_tag}
use Rattle.folder_rules.specs.Names.{number_in}
use Rattle.field_faults.specs.Values.{attribute_text, tag_texts, LooksAt}
use Rattle.field_faults.proofs.values.look_at_child.Goals as goal

pub returns : goal.returns
returns c =
    let names = c.args.names.now in
    let rows = c.args.rows.now in
    let tag = own_tag c.args.child.now in
    let place = c.get-kind.ensures ∙ ap (number_in names) (c.as_str-2.ensures.bytes ∙ c.in_ok-name.ensures ∙ ap folded (c.as_bytes.ensures.value ∙ c.as_str.ensures.bytes)) in
    IfOk-weaker c.look_at_attributes.result (λ found. (path : List ℕ) → LooksAt path (flat_map (attribute_text rows c.get-kind.result path tag) c.as_slice.result.now) c.args.first found)
    (λ found. (path : List ℕ) → LooksAt path (tag_texts names rows path tag) c.args.first found)
    (λ found h path.
    subst (λ p. LooksAt path (flat_map (attribute_text rows p path tag) tag.attributes) c.args.first found) place
    (subst (λ l. LooksAt path (flat_map (attribute_text rows c.get-kind.result path tag) l) c.args.first found) c.as_slice.ensures (h path)))
    c.look_at_attributes.ensures
