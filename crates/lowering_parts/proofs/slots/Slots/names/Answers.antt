use Rattle.lowering_parts.proofs.Keys.{all_distinct}
use Rattle.lowering_parts.proofs.slots.Slots.names.Goals as goal

pub returns-clause-distinct : goal.returns-clause-distinct
returns-clause-distinct c = all_distinct (λ v. v.items) c.loop-name.names c.self.inside.names.keys c.as_slice-keys.result.now c.loop-name.name-index c.loop-name-test.false c.as_slice-keys.ensures.keys c.loop-name.invariant c.as_slice-keys.ensures.unique
