use Rattle.std.proofs.Common.{subst, ◌∙◌}
use Rattle.heap_meaning.specs.Heap.{SetsKey}
use Rattle.brs_machine.proofs.first.put_value.Goals as goal

pub returns-in-Ok-clause-set : goal.returns-in-Ok-clause-set
returns-in-Ok-clause-set c = subst (λ key. SetsKey c.args.heap.now c.set_key.new.self c.args.map.now key c.args.value) (c.as_bytes.ensures.value ∙ c.as_str.ensures.bytes) c.in-Ok.ensures.set
