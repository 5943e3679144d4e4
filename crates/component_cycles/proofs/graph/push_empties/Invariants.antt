use Rattle.std.proofs.Common.{◌+◌, ℕ}
use Rattle.component_cycles.specs.Graph.{IsWithoutSteps}
use Rattle.component_cycles.proofs.graph.push_empties.Given as goal

abbrev pub invariant-loop-done : goal.invariant-loop-done
invariant-loop-done l = (kinds : ℕ) → IsWithoutSteps kinds l.initial.graph.items → IsWithoutSteps (kinds + l._done) l.graph.items
