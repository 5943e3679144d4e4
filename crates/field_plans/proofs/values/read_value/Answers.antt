use Rattle.std.proofs.Common.{◌≡◌, Some, None, Err, sym, subst}
use Rattle.chan_values.specs.View.{tree_of}
use Rattle.field_types.specs.Attribute.{Answers}
use Rattle.field_plans.specs.Values.{value_read}
use Rattle.field_plans.proofs.Read.{read_is, not_read}
use Rattle.field_plans.proofs.values.read_value.Goals as goal

pub returns-in-Ok : goal.returns-in-Ok
returns-in-Ok c =
    let value = tree_of c.in-Ok.value in
    subst (λ text. Some value ≡ value_read c.args.holds text) c.as_bytes.ensures.value (sym (read_is c.args.holds c.as_bytes.result.now value c.in-Ok.ensures))

pub returns-in-Err-BadText : goal.returns-in-Err-BadText
returns-in-Err-BadText c =
    let bytes = c.as_bytes.result.now in
    subst (λ text. None ≡ value_read c.args.holds text) c.as_bytes.ensures.value
    (sym (not_read c.args.holds bytes (subst (λ e. Answers c.args.holds bytes (Err e)) c.in-Err-BadText.field-0-is c.in-Err-BadText.ensures)))
