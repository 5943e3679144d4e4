use Rattle.std.proofs.Common.{◌≡◌, length}
use Rattle.machine_meaning.specs.Image.{among_entries}
use Rattle.constant_instructions.proofs.names.number_in_scope.Given as goal

abbrev pub invariant-loop-entries : goal.invariant-loop-entries
invariant-loop-entries l = among_entries l.entries l.name ≡ among_entries l.initial.entries l.name

abbrev pub decreases-loop-entries : goal.decreases-loop-entries
decreases-loop-entries l = length l.entries
