use Rattle.node_tree.proofs.SoundLaws.{made_stays, made_own}
use Rattle.node_tree.proofs.ownership_laws.makings_leave_owners.Goals as goal

pub returns-clause-others : goal.returns-clause-others
returns-clause-others c = made_stays

pub returns-clause-own : goal.returns-clause-own
returns-clause-own c = made_own
