-- How a machine stands for the calls in progress of an actor, over one store.
use Rattle.std.specs.Prelude.{◌≡◌, false, ℕ, List, [], ◌∷◌, length, Option, Some, None, slice_get}
use Rattle.chan_values.specs.declared.error_code.ErrorCode.{ErrorCode}
use Rattle.brs_forms.specs.Words.{is_m}
use Rattle.brs_grammar.specs.Form.{Text}
use Rattle.brs_code.specs.declared.function.Function as code
use Rattle.code_relation.specs.declared.exits.Exits.{Exits}
use Rattle.code_relation.specs.Standing.{FunctionForm, FunctionAt}
use Rattle.brs_tokens.specs.declared.place.Place.{Place}
use Rattle.brs_meaning.specs.Program.{Program, Function, scoped}
use Rattle.brs_meaning.specs.Locals.{Locals, local}
use Rattle.brs_meaning.specs.Running as r
use Rattle.brs_meaning.specs.Running.{Call, Task, Spot, AtFailure, Hole, Operand, Ends, Held, Tree}
use Rattle.brs_meaning.specs.Reduction.{Reduced}
use Rattle.machine_meaning.specs.Image as m
use Rattle.machine_meaning.specs.Image.{Image, function_at, built_in_at, built_in_number, anonymous_number}
use Rattle.machine_meaning.specs.Frame as f
use Rattle.machine_meaning.specs.Frame.{Slots, slot_value, Frame, Landing, OnOperands, Nowhere, Suspended, Machine}
use Rattle.machine_meaning.specs.Stepping.{Shown, Shows, Stuck}
use Rattle.machine_match.specs.Compiled.{Compiled, TodoIs, ParamsAre}
use Rattle.machine_match.specs.Places.{Flows, kept, RestAt, HoleAt, SpotAt}

-- ---- functions

abbrev pub compiled_of : Image → Program → code.Function → Function → List FunctionForm → Compiled
compiled_of image p f source forms = record { function = f; forms = forms; number_of = p.anonymous source.file; number_at = anonymous_number image f }

-- the code of a function of the source
pub record FunctionStands (image : Image) (p : Program) (f : code.Function) (source : Function) : Type 0 where
  pub path : source.path ≡ f.path
  pub forms : List FunctionForm
  pub code : FunctionAt forms f (record { line = source.heading.line; callee = source.callee })
  -- the name of the call's `m` has no slot
  pub no_m : (n : ℕ) (x : Text) → slice_get f.names n ≡ Some x → is_m x ≡ false
  pub params : ParamsAre (compiled_of image p f source forms) source.callee.params
  pub body : TodoIs (compiled_of image p f source forms) source.callee.body

abbrev pub CalleeStands : Image → Program → Option code.Function → Option Function → Type 0
CalleeStands image p None None = Unit {0}
CalleeStands image p (Some f) (Some source) = FunctionStands image p f source
CalleeStands image p _ _ = ⊥

-- both number functions alike, and names read alike in each scope
pub record ImageStands (image : Image) (p : Program) : Type 0 where
  pub functions : (n : ℕ) → CalleeStands image p (function_at image n) (p.function n)
  pub built_ins : (n : ℕ) → p.built_in n ≡ built_in_at image n
  pub numbers : (x : Text) → p.built_in_number x ≡ built_in_number image x
  pub scopes : (scope : ℕ) (x : Text) → scoped p scope x ≡ m.scoped image scope x

-- ---- calls

-- each slot has the value of the local of its name, and is unset where that isn't assigned
abbrev pub SlotsAre : code.Function → Slots → Locals → Type 0
SlotsAre f slots locals = (n : ℕ) (x : Text) → slice_get f.names n ≡ Some x → local x locals ≡ slot_value slots n

-- the call that a frame is, in the words of the tree
abbrev pub seen_as : Frame → Function → Locals → Call
seen_as frame source locals = record { kind = frame.kind; function = source; home = frame.home; m = frame.m; locals = locals }

pub record FrameStands (image : Image) (p : Program) (frame : Frame) (call : Call) : Type 0 where
  pub function : FunctionStands image p frame.function call.function
  pub same : seen_as frame call.function call.locals ≡ call
  pub slots : SlotsAre frame.function frame.slots call.locals
  pub room : length frame.slots ≡ length frame.function.names

abbrev pub compiled : {image : Image} {p : Program} {f : code.Function} {source : Function} → FunctionStands image p f source → Compiled
compiled {image = image} {p = p} {f = f} {source = source} function = compiled_of image p f source function.forms

-- free ways lead the frame to the redex
pub record WorkStands (image : Image) (p : Program) (frame : Frame) (call : Call) (spot : Spot) (tasks : List Task) : Type 0 where
  pub frame_stands : FrameStands image p frame call
  pub place : ℕ
  pub flows : Flows frame.function frame.operands frame.place place
  pub exits : Exits
  pub at : SpotAt (compiled frame_stands.function) exits place spot frame.operands tasks

-- where the value that is waited for will stand
abbrev pub LandsAt : Compiled → ℕ → Landing → Hole → List f.Operand → List Task → Type 0
LandsAt c place OnOperands (Operand context base) ops tasks = (x : Exits) × (e : ℕ) × HoleAt c x place context base ops (kept tasks) e × RestAt c x e tasks
LandsAt c place Nowhere Ends ops tasks = (ops ≡ kept tasks) × (x : Exits) × RestAt c x place tasks
LandsAt c place _ _ ops tasks = ⊥

pub record HeldStands (image : Image) (p : Program) (s : Suspended) (h : Held) : Type 0 where
  pub frame_stands : FrameStands image p s.frame h.call
  pub line : s.line ≡ h.place.line
  pub lands : LandsAt (compiled frame_stands.function) s.frame.place s.landing h.hole s.frame.operands h.tasks

-- the calls that wait, one by one
abbrev pub CallsStand : Image → Program → List Suspended → List Held → Type 0
CallsStand image p [] [] = Unit {0}
CallsStand image p (s ∷ below) (h ∷ held) = HeldStands image p s h × CallsStand image p below held
CallsStand image p _ _ = ⊥

-- an error that was handed back is raised where it was asked for
pub record FailureStands (e : ErrorCode) (s : Suspended) (call : Call) (spot : Spot) : Type 0 where
  pub at : Place
  pub same : AtFailure e at ≡ spot
  pub line : s.line ≡ at.line
  pub path : call.function.path ≡ s.frame.function.path

-- ---- machines

abbrev pub Stands : Image → Program → Machine → Tree → Type 0
Stands image p (f.Works frame below) (r.Works call spot tasks held) = WorkStands image p frame call spot tasks × CallsStand image p below held
Stands image p (f.Waits below) (r.Waits held) = CallsStand image p below held
Stands image p (f.Fails e s below) (r.Works call spot tasks held) = FailureStands e s call spot
Stands image p _ _ = ⊥

-- what a step shows is what the reduction shows, and what is after it stands for what is after that
abbrev pub ShownStands : Image → Program → Shown → Reduced → Type 0
ShownStands image p (Shows outcome machine store) reduced = (outcome ≡ reduced.outcome) × (store ≡ reduced.store) × Stands image p machine reduced.tree
ShownStands image p Stuck reduced = ⊥
