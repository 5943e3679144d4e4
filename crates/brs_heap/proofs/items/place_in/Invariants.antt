use Rattle.std.proofs.Common.{◌-◌, vec_len}
use Rattle.std.specs.Prelude.{vec_capacity}
use Rattle.brs_heap.proofs.Growth.{Growing}
use Rattle.brs_heap.proofs.items.place_in.Given as goal

abbrev pub invariant-loop-i : goal.invariant-loop-i
invariant-loop-i l = Growing l.initial.items.items l.items.items (l._i - l.len) (vec_len l.items) (vec_capacity l.items) (l.at - l._i)
