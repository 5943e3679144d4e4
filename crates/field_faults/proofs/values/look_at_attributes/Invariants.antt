use Rattle.std.proofs.Common.{ℕ, List, take}
use Rattle.std.specs.List.{flat_map}
use Rattle.folder_rules.specs.Children.{own_tag}
use Rattle.field_faults.specs.Values.{attribute_text, LooksAt}
use Rattle.field_faults.proofs.values.look_at_attributes.Given as goal

abbrev pub invariant-loop-attribute : goal.invariant-loop-attribute
invariant-loop-attribute l = (path : List ℕ) → LooksAt path (flat_map (attribute_text l.rows l.kind path (own_tag l.child)) (take l.attribute-index l.attributes)) l.initial.first l.first
