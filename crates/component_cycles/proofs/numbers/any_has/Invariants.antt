use Rattle.std.proofs.Common.{◌≢◌, slice_index, take}
use Rattle.std.specs.List.{All}
use Rattle.component_cycles.proofs.numbers.any_has.Given as goal

abbrev pub invariant-loop-place : goal.invariant-loop-place
invariant-loop-place l = All (λ place. slice_index l.numbers place ≢ l.number) (take l.place-index l.places)
