-- An instruction that was performed is the step of an actor that has one.
use Rattle.std.proofs.Common.{◌≡◌, ℕ, List, [], ◌∷◌, Some, None, sym, ap, ◌∙◌, subst}
use Rattle.std.specs.Prelude.{slice_get}
use Rattle.chan_values.specs.declared.error_code.ErrorCode.{ErrorCode}
use Rattle.heap_meaning.specs.Store.{Store}
use Rattle.heap_meaning.specs.Stands.{Naming}
use Rattle.heap_meaning.specs.Heap.{Heap}
use Rattle.brs_code.specs.declared.instr.Placed.{Placed}
use Rattle.brs_meaning.specs.Locals as l
use Rattle.brs_meaning.specs.Reduction as r
use Rattle.machine_meaning.specs.Image.{Image}
use Rattle.machine_meaning.specs.Frame as mm
use Rattle.machine_meaning.specs.Stepping.{Shown, Shows, StepOf, perform, free_from, counted}
use Rattle.machine_meaning.proofs.OneStep.{one_step}
use Rattle.frame_stack.specs.Frame.{Frame}
use Rattle.actor_meaning.specs.declared.outcome.Outcome.{Outcome}
use Rattle.actor_meaning.specs.declared.phase.Phase.TheVariants.{Works}
use Rattle.actor_meaning.specs.View.{Actor, ActorIs, MachineIs}
use Rattle.actor_meaning.specs.Promises.{HasStep, Stepped, Steps}
use Rattle.actor_meaning.specs.Performing.{ShownAs, Performs, ComesNext}

no_waits : (image : Image) (name : Naming) (frames : List Frame) (below : List mm.Suspended) → MachineIs image name Works frames (mm.Waits below) → ⊥
no_waits image name [] below h = h
no_waits image name (x ∷ frames) below h = h

no_fails : (image : Image) (name : Naming) (frames : List Frame) (e : ErrorCode) (s : mm.Suspended) (below : List mm.Suspended) → MachineIs image name Works frames (mm.Fails e s below) → ⊥
no_fails image name [] e s below h = h
no_fails image name (x ∷ frames) e s below h = h

shown_step : (image : Image) (number : ℕ) (heap : Heap) (a : Actor) (shown : Outcome) (homes : List l.Home) (machine : mm.Machine) (store : Store) (s : Shown) (outcome : r.Outcome) (next : mm.Machine) (after : Store)
    → a.number ≡ number → ShownAs image heap a shown homes s → s ≡ Shows outcome next after → StepOf image number homes machine store (Shows outcome next after) → Stepped image heap a shown homes machine store
shown_step image number heap a shown homes machine store s outcome next after same p e step =
    let q = subst (λ x. ShownAs image heap a shown homes x) e p in
    record {
      outcome = outcome;
      next = next;
      after = after;
      step = subst (λ n. StepOf image n homes machine store (Shows outcome next after)) (sym same) step;
      shows = q.0;
      seen = q.1;
    }

module _ (image : Image) (old_heap : Heap) (old : Actor) (new_heap : Heap) (new : Actor) (shown : Outcome) (x : Placed) (at_work : old.phase ≡ Works) (same : new.number ≡ old.number)
    (comes : ComesNext image old_heap old x) (has : HasStep image old_heap old) (performs : Performs image old_heap old new_heap new shown x) where
  step_as : (name : Naming) (homes : List l.Home) (machine : mm.Machine) (store : Store) → ActorIs image name old_heap old homes machine store → Stepped image new_heap new shown homes machine store
  step_as name homes (mm.Works frame below) store is =
      let next = comes name homes frame below store is in
      let step = has name homes (mm.Works frame below) store is in
      let s : Shown = perform image old.number homes frame below store (Some x) in
      let way : free_from (slice_get frame.function.code frame.place) frame.operands frame.place ≡ None = ap (λ o. free_from o frame.operands frame.place) next.0 ∙ next.1 in
      let mine : StepOf image old.number homes (mm.Works frame below) store s = counted way (ap (perform image old.number homes frame below store) next.0) in
      let e : s ≡ Shows step.0 step.1 step.2 = one_step image old.number homes (mm.Works frame below) store s (Shows step.0 step.1 step.2) mine step.3 in
      shown_step image old.number new_heap new shown homes (mm.Works frame below) store s step.0 step.1 step.2 same (performs name homes frame below store is) e step.3
  step_as name homes (mm.Waits below) store is = absurd (no_waits image name old.frames below (subst (λ p. MachineIs image name p old.frames (mm.Waits below)) at_work is.machine_is))
  step_as name homes (mm.Fails e s below) store is = absurd (no_fails image name old.frames e s below (subst (λ p. MachineIs image name p old.frames (mm.Fails e s below)) at_work is.machine_is))

  pub performed : Steps image old_heap old new_heap new shown
  performed = step_as
