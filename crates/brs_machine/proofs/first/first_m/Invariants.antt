use Rattle.std.proofs.Common.{◌≡◌, take}
use Rattle.chan_values.specs.Tree.{Keyed, values_of, keys_of}
use Rattle.brs_copy.proofs.Laying.{Laying}
use Rattle.brs_machine.proofs.first.first_m.Given as goal

abbrev pub invariant-loop-pair : goal.invariant-loop-pair
invariant-loop-pair l = record {
  laying : Laying l.fn.heap l.heap l.map (Keyed (keys_of (take l.pair-index l.pairs))) (values_of (take l.pair-index l.pairs));
  shares : l.heap.shares ≡ l.fn.heap.shares;
}
