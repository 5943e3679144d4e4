use Rattle.std.proofs.Common.{◌+◌, length}
use Rattle.component_cycles.specs.Search.{unmarked}
use Rattle.component_cycles.proofs.Searches.{IsSearching}
use Rattle.component_cycles.proofs.reach.reached_from.Given as goal

abbrev pub invariant-loop-place : goal.invariant-loop-place
invariant-loop-place l = IsSearching l.graph l.start l.marks.items l.waiting.items

abbrev pub decreases-loop-place : goal.decreases-loop-place
decreases-loop-place l = unmarked l.marks.items + length l.waiting.items
