use Rattle.component_faults.proofs.Turns.{Left}
use Rattle.folder_rules.specs.Children.{own_tag}
use Rattle.folder_rules.specs.KindFaults.{unknown_child}
use Rattle.folder_rules.specs.Names.{is_known}
use Rattle.component_faults.proofs.children.check_elements.Given as goal

abbrev pub invariant-loop-child : goal.invariant-loop-child
invariant-loop-child l = Left (λ child. unknown_child (is_known l.names) l.path (own_tag child.now)) l.elements l.child-index
