-- Ways are functions of the place and the operands, so steps are unique.
use Rattle.std.proofs.Common.{◌≡◌, ℕ, List, sym, ◌∙◌, subst}
use Rattle.heap_meaning.specs.Store.{Store}
use Rattle.brs_meaning.specs.Locals.{Home}
use Rattle.machine_meaning.specs.Image.{Image}
use Rattle.machine_meaning.specs.Frame.{Frame, Suspended, Machine, Works, Waits, Fails, at_place}
use Rattle.machine_meaning.specs.Stepping.{Shown, Steps, counted, free, StepOf}

module _ (image : Image) (actor : ℕ) (homes : List Home) (below : List Suspended) (store : Store) where
  pub same_steps : {frame : Frame} {s t : Shown} → Steps image actor homes below store frame s → Steps image actor homes below store frame t → s ≡ t
  same_steps (counted way is) (counted way' is') = sym is ∙ is'
  same_steps (counted way is) (free way' steps) = cc
  same_steps (free way steps) (counted way' is) = cc
  same_steps (free {frame = frame} {to = to} {s = s} way steps) (free {to = to'} {s = t} way' steps') =
      let e : to ≡ to' = cc in
      same_steps steps (subst (λ r. Steps image actor homes below store (at_place r frame) t) (sym e) steps')

pub one_step : (image : Image) (actor : ℕ) (homes : List Home) (machine : Machine) (store : Store) (s t : Shown) → StepOf image actor homes machine store s → StepOf image actor homes machine store t → s ≡ t
one_step image actor homes (Works frame below) store s t a b = same_steps image actor homes below store a b
one_step image actor homes (Fails e h below) store s t a b = sym a ∙ b
one_step image actor homes (Waits below) store s t a b = absurd a
