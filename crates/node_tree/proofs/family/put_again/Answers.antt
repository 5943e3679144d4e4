use Rattle.node_tree.specs.Family.{without, with_child}
use Rattle.node_tree.proofs.Places.{children_written}
use Rattle.node_tree.proofs.family.put_again.Goals as goal

pub returns : goal.returns
returns c = children_written (λ ks. with_child c.args.place c.args.child (without c.args.child ks)) _ _ c.index_mut.result.now _ c.requires.node c.index_mut.ensures.value c.put_again.ensures
