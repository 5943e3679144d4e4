-- What the innermost call is seen as once its access is made.
use Rattle.std.proofs.Common.{◌≡◌, ℕ, ◌+◌, List, ◌∷◌, ◌++◌, drop, refl, sym, subst}
use Rattle.heap_meaning.specs.Values.{Value, StoreValue}
use Rattle.heap_meaning.specs.Stands.{Naming, meaning}
use Rattle.machine_meaning.specs.Image.{Image}
use Rattle.machine_meaning.specs.Frame as mm
use Rattle.machine_meaning.specs.Stepping.{suspended}
use Rattle.frame_stack.specs.declared.header.Landing.{Landing}
use Rattle.frame_stack.specs.declared.header.Landing.TheVariants as d
use Rattle.frame_stack.specs.Frame.{Frame, without_operands}
use Rattle.frame_actions.specs.Actions.{dropped}
use Rattle.actor_meaning.specs.View.{landing_meaning, FrameIs, SuspendedIs}
use Rattle.actor_meaning.proofs.Moves.{operands_fewer, place_moved}
use Rattle.moving_instructions.proofs.Values.{pushed_seen}
use Rattle.member_instructions.specs.Settling.{landed, waits}
use Rattle.member_instructions.proofs.Rows.{put}

-- so many operands are gone, and the next instruction is the one at this place
abbrev rest : (n to : ℕ) → mm.Frame → mm.Frame
rest n to frame = mm.at_place to (mm.with_operands (drop n frame.operands) frame)

abbrev pub with_rest : mm.Frame → (to : ℕ) → List mm.Operand → mm.Frame
with_rest frame to operands = record frame { place = to; operands = operands; slots = frame.slots }

rest_seen : (image : Image) (name : Naming) (x : Frame) (frame : mm.Frame) (n to : ℕ) → FrameIs image name x frame → FrameIs image name (dropped n to x) (rest n to frame)
rest_seen image name x frame n to f = place_moved image name (without_operands n x) (mm.with_operands (drop n frame.operands) frame) to (operands_fewer image name x frame n f)

-- a value landed
pub landed_seen : (image : Image) (name : Naming) (x : Frame) (frame : mm.Frame) (landing : Landing) (n to : ℕ) (v : Value) (w : StoreValue) → FrameIs image name x frame → meaning name v ≡ w
    → FrameIs image name (landed landing v to (dropped n to x)) (with_rest frame to (put landing w (drop n frame.operands)))
landed_seen image name x frame d.Operands n to v w f shows =
    subst (λ u. FrameIs image name (landed d.Operands v to (dropped n to x)) (with_rest frame to (mm.Holds u ∷ drop n frame.operands))) shows (pushed_seen image name (dropped n to x) (rest n to frame) v to (rest_seen image name x frame n to f))
landed_seen image name x frame d.Nowhere n to v w f shows = rest_seen image name x frame n to f

pub put_above : (landing : Landing) (v : StoreValue) (back more : List mm.Operand) → put landing v back ++ more ≡ put landing v (back ++ more)
put_above d.Operands v back more = refl
put_above d.Nowhere v back more = refl

-- a value is awaited
abbrev with_place : mm.Frame → (to : ℕ) → List mm.Operand → mm.Frame
with_place frame to operands = record frame { place = to; operands = operands }

pub waits_seen : (image : Image) (name : Naming) (x : Frame) (frame : mm.Frame) (landing : Landing) (line n to : ℕ) (operands : List mm.Operand) → FrameIs image name x frame → frame.place + 1 ≡ to → operands ≡ drop n frame.operands
    → SuspendedIs image name (waits landing line (dropped n to x)) (suspended (with_place frame (frame.place + 1) operands) line (landing_meaning landing))
waits_seen image name x frame landing line n to operands f p e =
    let seen : FrameIs image name (dropped n to x) (rest n to frame) = rest_seen image name x frame n to f in
    let same : FrameIs image name (dropped n to x) (with_place frame (frame.place + 1) operands) =
    subst (λ ops. FrameIs image name (dropped n to x) (with_place frame (frame.place + 1) ops)) (sym e) (subst (λ q. FrameIs image name (dropped n to x) (with_place frame q (drop n frame.operands))) (sym p) seen) in
    record { frame = record { function = same.function; path = same.path; is = same.is }; line = refl; landing = refl }
