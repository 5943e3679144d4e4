use Rattle.node_tree.specs.declared.children.Place.TheVariants.{Last}
use Rattle.node_tree.proofs.Owning.{set_owned, add_owned, moved_owned, inserted_owned, removed_owned, made_owned, given_owned}
use Rattle.node_tree.proofs.ownership_laws.nodes_stay_owned.Goals as goal

pub returns-clause-set : goal.returns-clause-set
returns-clause-set c = set_owned

pub returns-clause-add : goal.returns-clause-add
returns-clause-add c = add_owned

pub returns-clause-append : goal.returns-clause-append
returns-clause-append c = moved_owned Last

pub returns-clause-insert : goal.returns-clause-insert
returns-clause-insert c = inserted_owned

pub returns-clause-remove : goal.returns-clause-remove
returns-clause-remove c = removed_owned

pub returns-clause-make : goal.returns-clause-make
returns-clause-make c = made_owned

pub returns-clause-give : goal.returns-clause-give
returns-clause-give c = given_owned
