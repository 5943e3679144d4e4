use Rattle.std.proofs.Common.{◌≡◌, take, length}
use Rattle.chan_values.specs.Folded.{folded}
use Rattle.field_observers.proofs.names.fold_into.Given as goal

abbrev pub invariant-loop-at : goal.invariant-loop-at
invariant-loop-at l = record {
  front : take l.at l.room.items ≡ folded (take l.at l.field);
  same : length l.room.items ≡ length l.fn.room.items;
}
