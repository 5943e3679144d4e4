use Rattle.std.proofs.Common.{refl}
use Rattle.std.specs.Prelude.{option_map}
use Rattle.node_tree.specs.declared.children.Place.TheVariants.{Last}
use Rattle.node_tree.specs.Nodes.{with_fields}
use Rattle.node_tree.specs.Fields.{fields_after_set}
use Rattle.node_tree.proofs.Places.{read_with}
use Rattle.node_tree.proofs.Stays.{stays_at_add, owner_moved, owner_inserted, owner_removed}
use Rattle.node_tree.proofs.laws.owners_stay.Goals as goal

pub returns-clause-set : goal.returns-clause-set
returns-clause-set c = λ nodes n i name v. read_with (option_map (λ x. x.owner)) (with_fields (fields_after_set name v)) (λ x. refl) nodes n i

pub returns-clause-add : goal.returns-clause-add
returns-clause-add c = stays_at_add (option_map (λ x. x.owner)) (λ f x. refl)

pub returns-clause-append : goal.returns-clause-append
returns-clause-append c = owner_moved Last

pub returns-clause-insert : goal.returns-clause-insert
returns-clause-insert c = owner_inserted

pub returns-clause-remove : goal.returns-clause-remove
returns-clause-remove c = owner_removed
