use Rattle.std.proofs.Common.{◌∙◌, ℕ, List, ◌++◌, None, Bor, ap, sym, subst}
use Rattle.std.specs.List.{flat_map}
use Rattle.std.proofs.lemmas.Result.{IfOk-weaker}
use Rattle.component_files.specs.declared.element.ChildElement.{ChildElement}
use Rattle.folder_rules.specs.Children.{own_tag, own_tags, child_tags}
use Rattle.folder_rules.specs.FieldFaults.{field_text}
use Rattle.folder_rules.proofs.Lists.{flat_map_map}
use Rattle.field_faults.specs.Values.{tag_texts, texts_of, LooksAt}
use Rattle.field_faults.proofs.Looks.{looks_more}
use Rattle.field_faults.proofs.values.first_unread.Goals as goal

pub returns : goal.returns
returns c =
    let component = c.args.component.now in
    let names = c.args.names.now in
    let rows = c.args.rows.now in
    let first = c.in_ok-first.first in
    let tags = ap own_tags c.as_slice-3.ensures.value ∙ c.in_ok-push_children.ensures ∙ ap (λ l. own_tags l ++ child_tags c.as_slice.result.now) c.new-elements.ensures.items ∙ ap child_tags c.as_slice.ensures in
    IfOk-weaker c.look_at_children.result (λ found. (path : List ℕ) → LooksAt path (flat_map (λ (child : Bor ChildElement). tag_texts names rows path (own_tag child.now)) c.as_slice-3.result.now) first found)
    (λ found. (path : List ℕ) → LooksAt path (texts_of names rows path component) None found)
    (λ found h path.
    looks_more path (flat_map (field_text path) component.file.fields) (flat_map (tag_texts names rows path) (child_tags component.file.children)) None first found
    (subst (λ l. LooksAt path (flat_map (field_text path) l) None first) c.as_slice-2.ensures (c.in_ok-first.ensures path))
    (subst (λ l. LooksAt path l first found) (sym (flat_map_map (tag_texts names rows path) (λ (child : Bor ChildElement). own_tag child.now) c.as_slice-3.result.now) ∙ ap (flat_map (tag_texts names rows path)) tags) (h path)))
    c.look_at_children.ensures
