use Rattle.std.proofs.Common.{◌-◌}
use Rattle.brs_heap.specs.Content.{entry_of}
use Rattle.brs_heap.proofs.Search.{Between}
use Rattle.std.specs.Prelude.{map}
use Rattle.chan_values.specs.Folded.{folded}
use Rattle.heap_meaning.specs.Keys.{keys_of}
use Rattle.brs_heap.proofs.keys.find_key.Given as goal

abbrev pub invariant-loop-low : goal.invariant-loop-low
invariant-loop-low l = Between (keys_of (map entry_of l.entries)) (folded l.key) l.low l.high

abbrev pub decreases-loop-low : goal.decreases-loop-low
decreases-loop-low l = l.high - l.low
