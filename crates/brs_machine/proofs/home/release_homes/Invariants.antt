use Rattle.std.proofs.Common.{vec_len}
use Rattle.brs_machine.proofs.Homes.{Released}
use Rattle.brs_machine.proofs.home.release_homes.Given as goal

abbrev pub invariant-loop-home : goal.invariant-loop-home
invariant-loop-home l = Released l.initial.heap l.heap l.initial.homes.items l.homes.items

abbrev pub decreases-loop-home : goal.decreases-loop-home
decreases-loop-home l = vec_len l.homes
