use Rattle.std.proofs.Common.{refl}
use Rattle.node_tree.specs.Nodes.{parent_in, children_in, with_fields}
use Rattle.node_tree.specs.Fields.{fields_after_set}
use Rattle.node_tree.proofs.Places.{read_with}
use Rattle.node_tree.proofs.Stays.{stays_at_add}
use Rattle.node_tree.proofs.laws.fields_leave_families.Goals as goal

pub returns-clause-set_parent : goal.returns-clause-set_parent
returns-clause-set_parent c = λ nodes n i name v. read_with parent_in (with_fields (fields_after_set name v)) (λ x. refl) nodes n i

pub returns-clause-set_children : goal.returns-clause-set_children
returns-clause-set_children c = λ nodes n i name v. read_with children_in (with_fields (fields_after_set name v)) (λ x. refl) nodes n i

pub returns-clause-add_parent : goal.returns-clause-add_parent
returns-clause-add_parent c = stays_at_add parent_in (λ f x. refl)

pub returns-clause-add_children : goal.returns-clause-add_children
returns-clause-add_children c = stays_at_add children_in (λ f x. refl)
