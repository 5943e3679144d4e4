use Rattle.node_tree.specs.Family.{without}
use Rattle.node_tree.proofs.Places.{children_written}
use Rattle.node_tree.proofs.family.take_out.Goals as goal

pub returns : goal.returns
returns c = children_written (without c.args.child) _ _ c.index_mut.result.now _ c.requires c.index_mut.ensures.value c.remove.ensures
