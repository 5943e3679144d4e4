use Rattle.std.proofs.Common.{length, ◌-◌, ◌≡◌, ◌≤◌, drop}
use Rattle.brs_tokens.specs.Lengths.{text_len, longer_by}
use Rattle.brs_tokens.proofs.scan.text_len.Given as goal

abbrev pub invariant-loop-at : goal.invariant-loop-at
invariant-loop-at l = (l.at ≤ length l.bytes) × (l.found ≤ length l.bytes) × (longer_by l.at l.found (text_len (drop l.at l.bytes)) ≡ text_len l.bytes)

abbrev pub decreases-loop-at : goal.decreases-loop-at
decreases-loop-at l = length l.bytes - l.at
