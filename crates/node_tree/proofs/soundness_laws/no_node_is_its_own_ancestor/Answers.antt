use Rattle.node_tree.proofs.Ascents.{tree_is}
use Rattle.node_tree.proofs.soundness_laws.no_node_is_its_own_ancestor.Goals as goal

pub returns : goal.returns
returns c = λ nodes sound. tree_is nodes sound.rooted
