use Rattle.node_tree.proofs.Places.{parent_written}
use Rattle.node_tree.proofs.family.set_parent.Goals as goal

pub returns : goal.returns
returns c = parent_written c.args.parent _ _ c.index_mut.result.now c.requires c.index_mut.ensures.value
