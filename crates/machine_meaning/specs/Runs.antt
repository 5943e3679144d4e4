-- Several steps of a machine, one after another.
use Rattle.std.specs.Prelude.{◌≡◌, ℕ, zero, suc, List, []}
use Rattle.heap_meaning.specs.Store.{Store}
use Rattle.brs_meaning.specs.Locals.{Home}
use Rattle.brs_meaning.specs.Reduction.{Outcome}
use Rattle.brs_meaning.specs.Runs.{seen}
use Rattle.machine_meaning.specs.Image.{Image}
use Rattle.machine_meaning.specs.Frame.{Machine, Waits}
use Rattle.machine_meaning.specs.Stepping.{Shows, StepOf}

-- at most so many steps show this, in order, but for those that show nothing
abbrev pub Runs : Image → (actor : ℕ) → List Home → (steps : ℕ) → Machine → Store → List Outcome → Type 0
Runs image actor homes zero machine store shown = shown ≡ []
Runs image actor homes (suc n) (Waits below) store shown = shown ≡ []
Runs image actor homes (suc n) machine store shown =
    (outcome : Outcome) × (next : Machine) × (after : Store) × (rest : List Outcome) × StepOf image actor homes machine store (Shows outcome next after) × Runs image actor homes n next after rest
    × (shown ≡ seen outcome rest)
