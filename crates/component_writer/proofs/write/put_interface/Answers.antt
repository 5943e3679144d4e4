use Rattle.std.proofs.Common.{◌∙◌}
use Rattle.std.proofs.lemmas.Result.{on_ok_weaker}
use Rattle.component_writer.proofs.Joins.{onto, join_interface}
use Rattle.component_writer.proofs.write.put_interface.Goals as goal

pub returns : goal.returns
returns c =
    on_ok_weaker c.put-2.result
    (λ e. onto _ _ _ _ e (onto _ _ _ _ c.in_ok-put_functions.ensures (onto _ _ _ _ c.in_ok-put_fields.ensures c.in_ok-put.ensures)) ∙ join_interface c.args.out.now.items c.args.file.now)
    c.put-2.ensures
