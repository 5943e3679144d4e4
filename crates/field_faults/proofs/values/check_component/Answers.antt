use Rattle.std.proofs.Common.{◌≡◌, sym, subst}
use Rattle.std.specs.Option.{option_map}
use Rattle.folder_rules.specs.FieldFaults.{unread_fault, IsUnread}
use Rattle.folder_rules.specs.FirstFault.{IsFirstWrong}
use Rattle.folder_rules.proofs.Found.{finds_weaker}
use Rattle.field_faults.specs.Values.{fault_at, row_texts, texts_of}
use Rattle.field_faults.proofs.Earliest.{first_found}
use Rattle.field_faults.proofs.values.check_component.Goals as goal

pub returns : goal.returns
returns c =
    let component = c.args.component.now in
    let texts = row_texts c.args.names.now c.args.rows.now component in
    let unread = c.in_ok-unread.unread in
    finds_weaker (λ found. found ≡ option_map (fault_at component.path) unread) (IsFirstWrong IsUnread unread_fault texts)
    (λ found e. subst (IsFirstWrong IsUnread unread_fault texts) (sym e) (first_found component.path (texts_of c.args.names.now c.args.rows.now component.path component) unread (c.in_ok-unread.ensures component.path)))
    c.refuse.result c.refuse.ensures
