-- The bytes of a report line.
use Rattle.std.specs.Prelude.{ℕ, List, [], ◌∷◌, ◌++◌, codes, decimal, flat_map, Option, Some, None}
use Rattle.trace_report.specs.declared.report.ReportLine.{ReportLine}
use Rattle.trace_report.specs.declared.report.ReportLine.TheVariants as line
use Rattle.chan_values.specs.declared.portable.Portable.{Portable}
use Rattle.chan_values.specs.Escape.{escaped}
use Rattle.chan_values.specs.ValueText.{value_text}
use Rattle.chan_values.specs.View.{tree_of}

abbrev pub parent_text : Option ℕ → List ℕ
parent_text (Some node) = decimal node
parent_text None = codes "none"

-- each with a space before it
abbrev pub children_text : List ℕ → List ℕ
children_text [] = codes " none"
children_text (child ∷ children) = flat_map (λ node. codes " " ++ decimal node) (child ∷ children)

abbrev pub node_line : ℕ → List ℕ → ℕ → Option ℕ → List ℕ → List ℕ
node_line node kind owner parent children =
    codes "node " ++ (decimal node ++ (codes " " ++ (escaped kind ++ (codes " owner " ++ (decimal owner
    ++ (codes " parent " ++ (parent_text parent ++ (codes " children" ++ (children_text children ++ 10 ∷ [])))))))))

abbrev pub field_line : ℕ → List ℕ → Portable → List ℕ
field_line node id value =
    codes "field " ++ (decimal node ++ (codes "." ++ (escaped id ++ (codes " " ++ (escaped (value_text (tree_of value)) ++ 10 ∷ [])))))

abbrev pub report_text : ReportLine → List ℕ
report_text (line.Node node kind owner parent children) = node_line node kind.now owner parent children.now
report_text (line.Field node id value) = field_line node id.now value.now
