-- One step of a machine that is at work: free ways, and one counted instruction.
use Rattle.std.specs.Prelude.{◌≡◌, ℕ, suc, ◌+◌, List, [], ◌∷◌, ◌++◌, length, take, drop, Option, Some, None, slice_get, cond}
use Rattle.chan_values.specs.declared.place.Place.{Place}
use Rattle.chan_values.specs.declared.error_code.ErrorCode.{ErrorCode}
use Rattle.chan_values.specs.Tree as v
use Rattle.heap_meaning.specs.declared.plain.Plain.TheVariants.{Invalid}
use Rattle.heap_meaning.specs.Values.{StoreValue, Scalar}
use Rattle.heap_meaning.specs.Store.{Store}
use Rattle.brs_grammar.specs.Form.{And, Or}
use Rattle.brs_meaning.specs.Locals.{Home}
use Rattle.brs_meaning.specs.Running.{Kind, Inner}
use Rattle.brs_meaning.specs.Moving.{decides}
use Rattle.brs_meaning.specs.Reduction.{Outcome, Went, Asked, Printed, Raised, Returned, TooBig, home_of, own_or}
use Rattle.brs_meaning.specs.Leaving.{leaving}
use Rattle.brs_code.specs.declared.instr.Instr.{Instr}
use Rattle.brs_code.specs.declared.instr.Instr.TheVariants.{Jump, AndTest, OrTest}
use Rattle.brs_code.specs.declared.instr.Placed.{Placed}
use Rattle.brs_code.specs.Instruction.{pops}
use Rattle.machine_meaning.specs.Image.{Image, place_at}
use Rattle.machine_meaning.specs.Frame.{Operand, Holds, Frame, Landing, OnOperands, Nowhere, Suspended, Machine, Works, Waits, Fails, at_place, with_operands}
use Rattle.machine_meaning.specs.Acted.{Acted, Goes, Calls, Asks, Prints, Leaves, Ends, Faults, Lost}
use Rattle.machine_meaning.specs.Setting.{Setting}
use Rattle.machine_meaning.specs.Instructions.{acted}
use Rattle.machine_meaning.specs.Entering.{Begun, Begins, Refuses, begun}

-- what a step shows, and the machine and the store after it; Stuck is what valid code never is
pub data Shown : Type 0 where
  Shows : Outcome → Machine → Store → Shown
  Stuck : Shown

-- an error ends all calls of the actor
abbrev pub raised : ErrorCode → Place → Store → Shown
raised e at store = Shows (Raised e at) (Waits []) store

-- a value that leaves the actor
abbrev pub left : Option v.Tree → Place → List Suspended → Store → Shown
left (Some t) at below store = Shows (Returned t) (Waits below) store
left None at below store = Shows (TooBig at) (Waits below) store

-- a value where a call waits for it
abbrev pub landed : StoreValue → Landing → Frame → Frame
landed v OnOperands frame = with_operands (Holds v ∷ frame.operands) frame
landed v Nowhere frame = frame

abbrev pub filled : StoreValue → Suspended → List Suspended → Machine
filled v h below = Works (landed v h.landing h.frame) below

-- a call returns a value, to the call below it or to the world
abbrev pub leave : Kind → StoreValue → Place → List Suspended → Store → Shown
leave Inner v at (h ∷ below) store = Shows Went (filled v h below) store
leave kind v at below store = left (leaving store v) at below store

abbrev pub suspended : Frame → (line : ℕ) → Landing → Suspended
suspended frame line landing = record { frame = frame; line = line; landing = landing }

abbrev pub entered : Begun → Suspended → List Suspended → Store → Shown
entered (Begins frame) h below store = Shows Went (Works frame (h ∷ below)) store
entered (Refuses e) h below store = raised e (place_at h.frame.function h.line) store

-- what was done, on the operands that the instruction left
abbrev pub carried : Acted → List Home → Frame → (line : ℕ) → (rest : List Operand) → List Suspended → Store → Shown
carried (Goes slots store back to) homes frame line rest below old = Shows Went (Works (record frame { place = to; operands = back ++ rest; slots = slots }) below) store
carried (Calls f m arguments) homes frame line rest below old =
    entered (begun Inner f frame.home (own_or m (home_of homes frame.home).m) arguments (suc (length below))) (suspended (record frame { place = frame.place + 1; operands = rest }) line OnOperands) below old
carried (Asks request back landing) homes frame line rest below old =
    Shows (Asked request) (Waits (suspended (record frame { place = frame.place + 1; operands = back ++ rest }) line landing ∷ below)) old
carried (Prints text) homes frame line rest below old = Shows (Printed text) (Works (record frame { place = frame.place + 1; operands = rest }) below) old
carried (Leaves v) homes frame line rest below old = leave frame.kind v (place_at frame.function line) below old
carried Ends homes frame line rest below old = leave frame.kind (Scalar Invalid) (place_at frame.function frame.function.line) below old
carried (Faults e) homes frame line rest below old = raised e (place_at frame.function line) old
carried Lost homes frame line rest below old = Stuck

abbrev pub setting_of : Image → (actor : ℕ) → List Home → Frame → Setting
setting_of image actor homes frame = record { image = image; actor = actor; scope = (home_of homes frame.home).scope; frame = frame }

abbrev pub perform : Image → (actor : ℕ) → List Home → Frame → List Suspended → Store → Option Placed → Shown
perform image actor homes frame below store None = Stuck
perform image actor homes frame below store (Some x) =
    carried (acted (setting_of image actor homes frame) x.instr (take (pops x.instr) frame.operands) store) homes frame x.line (drop (pops x.instr) frame.operands) below store

-- where an instruction leads that takes no step: a jump, and a test that doesn't decide
abbrev pub free_way : Instr → List Operand → (place : ℕ) → Option ℕ
free_way (Jump to) ops place = Some to
free_way (AndTest to) (Holds v ∷ ops) place = cond (decides And v) None (Some (place + 1))
free_way (OrTest to) (Holds v ∷ ops) place = cond (decides Or v) None (Some (place + 1))
free_way i ops place = None

abbrev pub free_from : Option Placed → List Operand → (place : ℕ) → Option ℕ
free_from None ops place = None
free_from (Some x) ops place = free_way x.instr ops place

-- free ways, and one counted instruction
pub data Steps (image : Image) (actor : ℕ) (homes : List Home) (below : List Suspended) (store : Store) : Frame → Shown → Type 0 where
  counted : {frame : Frame} {s : Shown} → free_from (slice_get frame.function.code frame.place) frame.operands frame.place ≡ None
      → perform image actor homes frame below store (slice_get frame.function.code frame.place) ≡ s → Steps image actor homes below store frame s
  free : {frame : Frame} {to : ℕ} {s : Shown} → free_from (slice_get frame.function.code frame.place) frame.operands frame.place ≡ Some to
      → Steps image actor homes below store (at_place to frame) s → Steps image actor homes below store frame s

-- the step of a machine; one that waits or is idle has none
abbrev pub StepOf : Image → (actor : ℕ) → List Home → Machine → Store → Shown → Type 0
StepOf image actor homes (Works frame below) store s = Steps image actor homes below store frame s
StepOf image actor homes (Fails e h below) store s = raised e (place_at h.frame.function h.line) store ≡ s
StepOf image actor homes (Waits below) store s = ⊥
