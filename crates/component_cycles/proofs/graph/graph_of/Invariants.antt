use Rattle.std.proofs.Common.{take}
use Rattle.folder_rules.specs.Kinds.{kind_names}
use Rattle.component_cycles.specs.Graph.{HasStepsOf}
use Rattle.component_cycles.proofs.graph.graph_of.Given as goal

abbrev pub invariant-loop-component : goal.invariant-loop-component
invariant-loop-component l = HasStepsOf (kind_names l.components) (take l.component-index l.components) l.graph.items
