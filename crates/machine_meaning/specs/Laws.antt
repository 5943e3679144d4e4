-- Laws of the machine's step.
use Rattle.std.specs.Prelude.{◌≡◌, ℕ, List}
use Rattle.heap_meaning.specs.Store.{Store}
use Rattle.brs_meaning.specs.Locals.{Home}
use Rattle.machine_meaning.specs.Image.{Image}
use Rattle.machine_meaning.specs.Frame.{Machine}
use Rattle.machine_meaning.specs.Stepping.{Shown, StepOf}

-- a machine has at most one step
abbrev pub OneStep : Type 0
OneStep =
    (image : Image) (actor : ℕ) (homes : List Home) (machine : Machine) (store : Store) (s t : Shown)
    → StepOf image actor homes machine store s → StepOf image actor homes machine store t → s ≡ t
