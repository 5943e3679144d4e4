use Rattle.std.proofs.Common.{◌≡◌, ◌+◌, ◌-◌, ◌≤◌, length}
use Rattle.component_files.specs.declared.state.Progress.TheVariants.{Start}
use Rattle.component_files.specs.Scan.{scan}
use Rattle.component_files.proofs.read.scan.Given as goal

abbrev pub invariant-loop-turn : goal.invariant-loop-turn
invariant-loop-turn l =
    (scan (length l.fn.text) Start l.fn.start l.fn.text ≡ scan (l._turn-end - l._turn) l.progress l.place l.rest)
    × (l.place.line + length l.rest ≤ 1 + length l.fn.text) × (l.place.column + length l.rest ≤ 4 + length l.fn.text)
