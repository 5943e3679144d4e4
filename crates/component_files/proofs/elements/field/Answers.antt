use Rattle.std.proofs.Common.{sym}
use Rattle.component_files.proofs.Said.{field_said}
use Rattle.component_files.proofs.elements.field.Goals as goal

pub returns : goal.returns
returns c =
    field_said c.args.tag.now c.args.place c.as_slice-attributes.result.now c.in_ok-id.id c.in_ok-word.word c.in_ok-notify.notify c.in_ok-value.value c.in_ok-on_change.on_change c.in_ok-always.always c.as_slice-attributes.ensures c.in_ok-id.ensures c.in_ok-word.ensures c.in_ok-notify.ensures
    c.in_ok-always.ensures (sym c.if-has_attribute.ensures) c.in_ok-value.ensures c.in_ok-on_change.ensures
