use Rattle.std.proofs.Common.{◌≡◌, ◌++◌, take}
use Rattle.folder_rules.specs.Children.{child_tags, own_tags}
use Rattle.folder_rules.proofs.children.+children.Given as goal

abbrev pub invariant-push_children-loop-child : goal.invariant-push_children-loop-child
invariant-push_children-loop-child l = own_tags l.elements.items ≡ own_tags l.initial.elements.items ++ child_tags (take l.child-index l.children)
