use Rattle.std.proofs.Common.{◌∙◌}
use Rattle.std.proofs.lemmas.Result.{on_ok_weaker}
use Rattle.component_writer.proofs.Joins.{onto, join_file}
use Rattle.component_writer.proofs.write.put_file.Goals as goal

pub returns : goal.returns
returns c =
    on_ok_weaker c.put.result
    (λ e. onto _ _ _ _ e (onto _ _ _ _ c.in_ok-put_children_part.ensures (onto _ _ _ _ c.in_ok-put_scripts.ensures (onto _ _ _ _ c.in_ok-put_interface.ensures c.in_ok-put_header.ensures))) ∙ join_file c.args.out.now.items c.args.file.now)
    c.put.ensures
