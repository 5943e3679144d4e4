use Rattle.node_tree.proofs.Owning.{get_owned, child_owned, parent_owned}
use Rattle.node_tree.proofs.ownership_laws.reads_name_own_nodes.Goals as goal

pub returns-clause-value : goal.returns-clause-value
returns-clause-value c = get_owned

pub returns-clause-child : goal.returns-clause-child
returns-clause-child c = child_owned

pub returns-clause-parent : goal.returns-clause-parent
returns-clause-parent c = parent_owned
