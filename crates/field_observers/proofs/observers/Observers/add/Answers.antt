use Rattle.std.proofs.Common.{ap, ◌∙◌}
use Rattle.std.proofs.lemmas.Result.{on_err_weaker}
use Rattle.field_observers.specs.Registered.{registrations_of}
use Rattle.field_observers.proofs.observers.Observers.add.Goals as goal

pub returns-clause-err : goal.returns-clause-err
returns-clause-err c =
    on_err_weaker c.register.result (λ p. λ n f. p n f ∙ ap (λ s. registrations_of s n f) c.self.view_is) c.register.ensures.err
