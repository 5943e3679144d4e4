use Rattle.std.proofs.Common.{ℕ, List, take}
use Rattle.std.specs.List.{flat_map}
use Rattle.folder_rules.specs.FieldFaults.{field_text}
use Rattle.field_faults.specs.Values.{LooksAt}
use Rattle.field_faults.proofs.values.look_at_fields.Given as goal

abbrev pub invariant-loop-field : goal.invariant-loop-field
invariant-loop-field l = (path : List ℕ) → LooksAt path (flat_map (field_text path) (take l.field-index l.fields)) l.initial.first l.first
