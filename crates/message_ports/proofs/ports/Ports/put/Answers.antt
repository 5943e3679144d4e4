use Rattle.std.proofs.Common.{ap, ◌∙◌, ◌++◌, ◌∷◌, [], arith}
use Rattle.message_ports.proofs.Queues.{held_at, held_after, held_again}
use Rattle.message_ports.proofs.ports.Ports.put.Goals as goal
use Rattle.message_ports.proofs.ports.Ports.put.Goals.{in-Ok, in-Err}

pub returns-clause-ok : goal.returns-clause-ok
returns-clause-ok c =
    elim c.match-push_back.branch [
      | in-Ok w ↦ rw w.result-is
          (held_after _ _ _ _ _ _ c.self.view_is
          (w.in-Ok.ensures.items ∙ ap (λ queue. queue.items ++ c.args.m ∷ []) c.index_mut.ensures.value
          ∙ ap (λ messages. messages ++ c.args.m ∷ []) (held_at _ _ _ _ _ [] c.self.view_is (omega (arith, c.requires)))))
      | in-Err w ↦ rw w.result-is tt
    ]

pub returns-clause-err : goal.returns-clause-err
returns-clause-err c =
    elim c.match-push_back.branch [
      | in-Ok w ↦ rw w.result-is tt
      | in-Err w ↦ rw w.result-is
          (held_again _ _ _ _ _ [] c.self.view_is
          (w.in-Err.ensures.items ∙ ap (λ queue. queue.items) c.index_mut.ensures.value
          ∙ held_at _ _ _ _ _ [] c.self.view_is (omega (arith, c.requires))))
    ]
