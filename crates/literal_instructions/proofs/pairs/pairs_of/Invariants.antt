use Rattle.std.proofs.Common.{◌+◌, ◌≤◌, take}
use Rattle.literal_instructions.specs.Literals.{Enters}
use Rattle.literal_instructions.proofs.pairs.pairs_of.Given as goal

abbrev pub invariant-loop-at : goal.invariant-loop-at
invariant-loop-at l = record { enters : Enters l.initial.heap l.heap l.pairs (take l.at l.keys) (take l.at l.items); shares : l.fn.heap.shares ≤ l.heap.shares + l.at }
