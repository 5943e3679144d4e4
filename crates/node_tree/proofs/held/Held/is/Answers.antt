use Rattle.std.proofs.Common.{ap, ◌∙◌}
use Rattle.chan_values.specs.View.{tree_of}
use Rattle.node_tree.specs.SameTree.{same_tree}
use Rattle.node_tree.proofs.SameTrees.{test_is}
use Rattle.node_tree.proofs.held.Held.is.Goals as goal

pub returns : goal.returns
returns c = test_is _ _ _ c.same.ensures ∙ ap (λ t. same_tree (tree_of c.args.other.now) t) c.self.view_is
