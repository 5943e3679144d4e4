-- Several steps of an actor, one after another.
use Rattle.std.specs.Prelude.{ℕ, zero, suc, List, [], ◌∷◌}
use Rattle.heap_meaning.specs.Store.{Store}
use Rattle.brs_meaning.specs.Program.{Program}
use Rattle.brs_meaning.specs.Locals.{Home}
use Rattle.brs_meaning.specs.Running.{Tree, Works, Waits}
use Rattle.brs_meaning.specs.Reduction.{Outcome, Went, reduce}

-- the outcomes but for steps that show nothing, in order, of at most so many steps
abbrev pub seen : Outcome → List Outcome → List Outcome
seen Went outcomes = outcomes
seen outcome outcomes = outcome ∷ outcomes

abbrev pub outcomes : Program → (actor : ℕ) → List Home → (steps : ℕ) → Tree → Store → List Outcome
outcomes p actor homes zero tree store = []
outcomes p actor homes (suc n) (Waits below) store = []
outcomes p actor homes (suc n) (Works call spot tasks below) store =
    let r = reduce p actor homes (Works call spot tasks below) store in
    seen r.outcome (outcomes p actor homes n r.tree r.store)
