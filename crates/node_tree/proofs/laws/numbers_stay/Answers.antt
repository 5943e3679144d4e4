use Rattle.node_tree.specs.declared.children.Place.TheVariants.{Last}
use Rattle.node_tree.specs.Nodes.{with_fields}
use Rattle.node_tree.specs.Fields.{fields_after_set}
use Rattle.node_tree.proofs.Places.{length_with}
use Rattle.node_tree.proofs.Stays.{length_add, length_moved, length_inserted, length_removed}
use Rattle.node_tree.proofs.laws.numbers_stay.Goals as goal

pub returns-clause-set : goal.returns-clause-set
returns-clause-set c = λ nodes n name v. length_with (with_fields (fields_after_set name v)) nodes n

pub returns-clause-add : goal.returns-clause-add
returns-clause-add c = length_add

pub returns-clause-append : goal.returns-clause-append
returns-clause-append c = length_moved Last

pub returns-clause-insert : goal.returns-clause-insert
returns-clause-insert c = length_inserted

pub returns-clause-remove : goal.returns-clause-remove
returns-clause-remove c = length_removed
