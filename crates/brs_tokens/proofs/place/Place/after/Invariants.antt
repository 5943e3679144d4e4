use Rattle.std.proofs.Common.{◌≡◌, ◌≤◌, ◌+◌, drop}
use Rattle.brs_tokens.specs.Spelling.{place_after}
use Rattle.brs_tokens.proofs.place.Place.after.Given as goal

abbrev pub invariant-loop-b : goal.invariant-loop-b
invariant-loop-b l =
    (place_after l.place (drop l.b-index l.bytes) ≡ place_after l.fn.self l.bytes) × (1 ≤ l.place.column)
    × (l.place.line ≤ l.fn.self.line + l.b-index) × (l.place.column ≤ l.fn.self.column + l.b-index)
