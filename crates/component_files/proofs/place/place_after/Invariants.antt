use Rattle.std.proofs.Common.{◌≡◌, ◌+◌, ◌≤◌, length}
use Rattle.component_files.specs.Places as spec
use Rattle.component_files.proofs.place.place_after.Given as goal

abbrev pub invariant-loop-bytes : goal.invariant-loop-bytes
invariant-loop-bytes l =
    (spec.place_after (record { line = l.line; column = l.column }) l.bytes ≡ spec.place_after l.fn.place l.fn.bytes)
    × (l.line + length l.bytes ≤ l.fn.place.line + length l.fn.bytes) × (l.column + length l.bytes ≤ l.fn.place.column + length l.fn.bytes)

abbrev pub decreases-loop-bytes : goal.decreases-loop-bytes
decreases-loop-bytes l = length l.bytes
