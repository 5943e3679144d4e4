use Rattle.std.proofs.Common.{◌∙◌}
use Rattle.std.proofs.lemmas.Result.{on_ok_weaker}
use Rattle.component_writer.proofs.Joins.{onto, join_field}
use Rattle.component_writer.proofs.elements.put_field.Goals as goal

pub returns : goal.returns
returns c =
    on_ok_weaker c.put-2.result
    (λ e. onto _ _ _ _ e (onto _ _ _ _ c.in_ok-put_field_options.ensures (onto _ _ _ _ c.in_ok-put_truth.ensures (onto _ _ _ _ c.in_ok-put_attribute-2.ensures (onto _ _ _ _ c.in_ok-put_attribute.ensures c.in_ok-put.ensures))))
    ∙ join_field c.args.out.now.items c.args.field.now)
    c.put-2.ensures
