use Rattle.std.proofs.Common.{◌≡◌, ◌∙◌, ap, subst}
use Rattle.std.specs.List.{flat_map}
use Rattle.folder_rules.specs.FieldFaults.{all_texts, unread_fault, IsUnread}
use Rattle.folder_rules.specs.FirstFault.{IsFirstWrong}
use Rattle.folder_rules.proofs.Found.{finds_weaker}
use Rattle.field_faults.specs.Values.{row_texts}
use Rattle.field_faults.proofs.RowTexts.{texts_same}
use Rattle.field_faults.proofs.values.check_values.Goals as goal

pub returns : goal.returns
returns c =
    let all = c.args.components.now in
    let same : flat_map (row_texts c.args.names.now c.as_slice.result.now) all ≡ all_texts all = ap (λ l. flat_map (row_texts c.args.names.now l) all) c.as_slice.ensures.value ∙ texts_same c.args.names.now all c.requires c.in_ok-rows.rows.items c.in_ok-rows.ensures in
    finds_weaker (IsFirstWrong IsUnread unread_fault (flat_map (row_texts c.args.names.now c.as_slice.result.now) all)) (IsFirstWrong IsUnread unread_fault (all_texts all))
    (λ found w. subst (λ l. IsFirstWrong IsUnread unread_fault l found) same w)
    c.check_each.result c.check_each.ensures
