use Rattle.std.proofs.Common.{take}
use Rattle.component_cycles.specs.Search.{Marks}
use Rattle.component_cycles.proofs.reach.mark_all.Given as goal

abbrev pub invariant-loop-place : goal.invariant-loop-place
invariant-loop-place l = Marks (take l.place-index l.places) l.initial.marks.items l.initial.waiting.items l.marks.items l.waiting.items
