use Rattle.std.proofs.Common.{◌≡◌, ◌+◌, length}
use Rattle.machine_meaning.specs.Image.{number_among}
use Rattle.constant_instructions.proofs.names.number_of_built_in.Given as goal

abbrev pub invariant-loop-built_ins : goal.invariant-loop-built_ins
invariant-loop-built_ins l = record {
  count : l.number + length l.built_ins ≡ l.first + length l.initial.built_ins;
  same : number_among l.built_ins l.name l.number ≡ number_among l.initial.built_ins l.name l.first;
}

abbrev pub decreases-loop-built_ins : goal.decreases-loop-built_ins
decreases-loop-built_ins l = length l.built_ins
