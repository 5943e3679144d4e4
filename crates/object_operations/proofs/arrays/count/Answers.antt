use Rattle.std.proofs.Common.{ap, ◌-◌, ◌^◌, ◌∙◌}
use Rattle.std.specs.Prelude.{min, pos}
use Rattle.heap_meaning.specs.declared.plain.Plain.TheVariants.{Small}
use Rattle.heap_meaning.specs.Values.{Direct}
use Rattle.object_operations.proofs.ArrayLaws.{counts}
use Rattle.object_operations.proofs.arrays.count.Goals as goal

pub returns : goal.returns
returns c = record { answer = counts c.args.heap.now c.args.array.now c.count_value.result (c.count_value.ensures ∙ ap (λ l. Direct (Small (pos (min l (2 ^ 31 - 1))))) c.length.ensures) }
