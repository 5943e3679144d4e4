use Rattle.std.proofs.Common.{ℕ, List, take}
use Rattle.std.specs.List.{flat_map}
use Rattle.folder_rules.specs.Children.{own_tag}
use Rattle.field_faults.specs.Values.{tag_texts, LooksAt}
use Rattle.field_faults.proofs.values.look_at_children.Given as goal

abbrev pub invariant-loop-child : goal.invariant-loop-child
invariant-loop-child l = (path : List ℕ) → LooksAt path (flat_map (λ child. tag_texts l.names l.rows path (own_tag child.now)) (take l.child-index l.elements)) l.initial.first l.first
