use Rattle.std.proofs.Common.{◌<◌, ◌≤◌, ℕ, slice_index}
use Rattle.std.specs.List.{All}
use Rattle.component_cycles.specs.Graph.{named_at}
use Rattle.component_cycles.proofs.numbers.ascends.Given as goal

abbrev pub invariant-loop-place : goal.invariant-loop-place
invariant-loop-place l = (place : ℕ) → place < l.place → All (λ other. slice_index l.numbers place ≤ slice_index l.numbers other) (named_at l.graph place)
