use Rattle.std.proofs.Common.{ap, ◌∙◌, [], drop, arith}
use Rattle.message_ports.proofs.Queues.{held_at, held_after}
use Rattle.message_ports.proofs.ports.Ports.take.Goals as goal

pub returns-clause-rest : goal.returns-clause-rest
returns-clause-rest c =
    held_after _ _ _ _ _ _ c.self.view_is
    (c.pop_front.ensures.rest ∙ ap (λ queue. drop 1 queue.items) c.index_mut.ensures.value
    ∙ ap (drop 1) (held_at _ _ _ _ _ [] c.self.view_is (omega (arith, c.requires))))
