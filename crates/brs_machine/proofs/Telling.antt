-- What the world is told of an actor.
use Rattle.std.proofs.Common.{◌≡◌, ℕ, List, [], ◌∷◌, Some, refl, sym, ap, ◌∙◌}
use Rattle.chan_values.specs.declared.place.Place.{Place}
use Rattle.heap_meaning.specs.Stands.{Naming}
use Rattle.machine_meaning.specs.Image.{Image}
use Rattle.machine_meaning.specs.Frame as mm
use Rattle.machine_meaning.specs.Answering as m
use Rattle.frame_stack.specs.Frame.{Frame}
use Rattle.actor_meaning.specs.declared.phase.Phase.{Phase}
use Rattle.actor_meaning.specs.declared.phase.Phase.TheVariants.{Works, Waits, Fails}
use Rattle.actor_meaning.specs.View.{MachineIs}
use Rattle.brs_machine.specs.Actors.{idle, at_work, wanting, place_of, home_of}
use Rattle.brs_machine.specs.Told.{IdleAlike, AtWorkAlike, PlaceAlike, HomeAlike}

idle_seen : (image : Image) (name : Naming) (phase : Phase) (frames : List Frame) (machine : mm.Machine) → MachineIs image name phase frames machine → idle phase frames ≡ m.is_idle machine
idle_seen image name Waits [] (mm.Waits []) is = refl
idle_seen image name Waits [] (mm.Waits (h ∷ below)) is = absurd is
idle_seen image name Waits (x ∷ frames) (mm.Waits []) is = absurd is
idle_seen image name Waits (x ∷ frames) (mm.Waits (h ∷ below)) is = refl
idle_seen image name Waits frames (mm.Works frame below) is = absurd is
idle_seen image name Waits frames (mm.Fails e h below) is = absurd is
idle_seen image name Works (x ∷ frames) (mm.Works frame below) is = refl
idle_seen image name Works (x ∷ frames) (mm.Waits below) is = absurd is
idle_seen image name Works (x ∷ frames) (mm.Fails e h below) is = absurd is
idle_seen image name Works [] machine is = absurd is
idle_seen image name (Fails error) (x ∷ frames) (mm.Fails e h below) is = refl
idle_seen image name (Fails error) (x ∷ frames) (mm.Works frame below) is = absurd is
idle_seen image name (Fails error) (x ∷ frames) (mm.Waits below) is = absurd is
idle_seen image name (Fails error) [] machine is = absurd is

at_work_seen : (image : Image) (name : Naming) (phase : Phase) (frames : List Frame) (machine : mm.Machine) → MachineIs image name phase frames machine → at_work phase ≡ m.is_at_work machine
at_work_seen image name Waits frames (mm.Waits below) is = refl
at_work_seen image name Waits frames (mm.Works frame below) is = absurd is
at_work_seen image name Waits frames (mm.Fails e h below) is = absurd is
at_work_seen image name Works (x ∷ frames) (mm.Works frame below) is = refl
at_work_seen image name Works (x ∷ frames) (mm.Waits below) is = absurd is
at_work_seen image name Works (x ∷ frames) (mm.Fails e h below) is = absurd is
at_work_seen image name Works [] machine is = absurd is
at_work_seen image name (Fails error) (x ∷ frames) (mm.Fails e h below) is = refl
at_work_seen image name (Fails error) (x ∷ frames) (mm.Works frame below) is = absurd is
at_work_seen image name (Fails error) (x ∷ frames) (mm.Waits below) is = absurd is
at_work_seen image name (Fails error) [] machine is = absurd is

abbrev placed : (path line : ℕ) → Place
placed path line = record { path = path; line = line }

place_seen : (image : Image) (name : Naming) (phase : Phase) (frames : List Frame) (machine : mm.Machine) → MachineIs image name phase frames machine → place_of (wanting phase frames) ≡ m.want_place machine
place_seen image name Waits [] (mm.Waits []) is = refl
place_seen image name Waits [] (mm.Waits (h ∷ below)) is = absurd is
place_seen image name Waits (x ∷ frames) (mm.Waits []) is = absurd is
place_seen image name Waits (x ∷ frames) (mm.Waits (h ∷ below)) is = ap (λ path. Some (placed path x.head.line)) is.0.frame.path ∙ ap (λ line. Some (placed h.frame.function.path line)) (sym is.0.line)
place_seen image name Waits frames (mm.Works frame below) is = absurd is
place_seen image name Waits frames (mm.Fails e h below) is = absurd is
place_seen image name Works (x ∷ frames) (mm.Works frame below) is = refl
place_seen image name Works (x ∷ frames) (mm.Waits below) is = absurd is
place_seen image name Works (x ∷ frames) (mm.Fails e h below) is = absurd is
place_seen image name Works [] machine is = absurd is
place_seen image name (Fails error) (x ∷ frames) (mm.Fails e h below) is = refl
place_seen image name (Fails error) (x ∷ frames) (mm.Works frame below) is = absurd is
place_seen image name (Fails error) (x ∷ frames) (mm.Waits below) is = absurd is
place_seen image name (Fails error) [] machine is = absurd is

home_seen : (image : Image) (name : Naming) (phase : Phase) (frames : List Frame) (machine : mm.Machine) → MachineIs image name phase frames machine → home_of (wanting phase frames) ≡ m.want_home machine
home_seen image name Waits [] (mm.Waits []) is = refl
home_seen image name Waits [] (mm.Waits (h ∷ below)) is = absurd is
home_seen image name Waits (x ∷ frames) (mm.Waits []) is = absurd is
home_seen image name Waits (x ∷ frames) (mm.Waits (h ∷ below)) is = ap (λ (f : mm.Frame). Some f.home) (sym is.0.frame.is)
home_seen image name Waits frames (mm.Works frame below) is = absurd is
home_seen image name Waits frames (mm.Fails e h below) is = absurd is
home_seen image name Works (x ∷ frames) (mm.Works frame below) is = refl
home_seen image name Works (x ∷ frames) (mm.Waits below) is = absurd is
home_seen image name Works (x ∷ frames) (mm.Fails e h below) is = absurd is
home_seen image name Works [] machine is = absurd is
home_seen image name (Fails error) (x ∷ frames) (mm.Fails e h below) is = refl
home_seen image name (Fails error) (x ∷ frames) (mm.Works frame below) is = absurd is
home_seen image name (Fails error) (x ∷ frames) (mm.Waits below) is = absurd is
home_seen image name (Fails error) [] machine is = absurd is

pub idle_alike : IdleAlike
idle_alike image name heap a homes machine store is = idle_seen image name a.phase a.frames machine is.machine_is

pub at_work_alike : AtWorkAlike
at_work_alike image name heap a homes machine store is = at_work_seen image name a.phase a.frames machine is.machine_is

pub place_alike : PlaceAlike
place_alike image name heap a homes machine store is = place_seen image name a.phase a.frames machine is.machine_is

pub home_alike : HomeAlike
home_alike image name heap a homes machine store is = home_seen image name a.phase a.frames machine is.machine_is
