use Rattle.std.proofs.Common.{◌-◌, vec_len}
use Rattle.std.specs.Prelude.{vec_capacity}
use Rattle.frame_stack.proofs.Growth.{Growing}
use Rattle.frame_stack.proofs.stack.add_unset.Given as goal

abbrev pub invariant-loop-i : goal.invariant-loop-i
invariant-loop-i l = Growing l.initial.slots.items l.slots.items l._i (vec_len l.slots) (vec_capacity l.slots) (l.count - l._i)
