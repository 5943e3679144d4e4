-- Instructions that leave their call.
use Rattle.std.proofs.Common.{◌≡◌, ℕ, ◌+◌, ◌<◌, List, [], ◌∷◌, length, take, drop, Option, Some, None, sym, ap, ◌∙◌, subst, arith}
use Rattle.std.specs.Option.{option_map}
use Rattle.chan_values.specs.declared.error_code.ErrorCode.TheVariants.{E2}
use Rattle.heap_meaning.specs.declared.plain.Plain.TheVariants.{Invalid}
use Rattle.heap_meaning.specs.Values.{Value, Direct, Scalar}
use Rattle.heap_meaning.specs.Store.{Store}
use Rattle.heap_meaning.specs.Cells.{occurrence}
use Rattle.heap_meaning.specs.Stands.{Naming, meaning}
use Rattle.heap_meaning.specs.Heap.{Heap}
use Rattle.heap_meaning.proofs.Steps.{stands_same}
use Rattle.brs_code.specs.declared.function.Function.{Function}
use Rattle.brs_code.specs.declared.instr.Instr.{Instr}
use Rattle.brs_code.specs.declared.instr.Instr.TheVariants as i
use Rattle.brs_code.specs.Instruction.{pops}
use Rattle.brs_meaning.specs.Locals as l
use Rattle.machine_meaning.specs.Image.{Image, function_at, place_at}
use Rattle.machine_meaning.specs.Frame as mm
use Rattle.machine_meaning.specs.Statements.{typed, leaves, returns}
use Rattle.machine_meaning.specs.Instructions.{acted}
use Rattle.machine_meaning.specs.Stepping.{setting_of, carried, leave}
use Rattle.frame_stack.specs.Frame.{Frame, without_operands, operands_of, changed}
use Rattle.call_release.specs.References.{call_references}
use Rattle.frame_actions.specs.Actions.{last_value}
use Rattle.actor_meaning.specs.declared.phase.Phase.TheVariants.{Works}
use Rattle.actor_meaning.specs.View.{Home, home_references, FrameIs, MachineIs, ActorIs}
use Rattle.actor_meaning.specs.Performed.{working}
use Rattle.actor_meaning.proofs.Moves.{operands_fewer}
use Rattle.instruction_effects.specs.Effects.{Circumstance, Runs, FaultedWhere, Anywhere}
use Rattle.moving_instructions.proofs.Values.{last_seen}
use Rattle.typed_values.specs.Taken.{LastTakenAs, Takes}
use Rattle.typed_values.proofs.Bound.{runs_same, path_stays}
use Rattle.return_instructions.specs.declared.leaving.Leaving.{Leaving}
use Rattle.return_instructions.specs.declared.leaving.Leaving.TheVariants as way
use Rattle.return_instructions.specs.Departed.{LeftAs, IsNoError, Departs}
use Rattle.return_instructions.specs.Left.{LeavesCall}

-- ---- what an instruction shows that leaves its call

-- in this circumstance, as whatever machine the actor is seen, it shows what is carried out
abbrev pub ShowsLeaving : Circumstance → (line : ℕ) → (old : Heap) → (before : List Frame) → (new : Heap) → (after : List Frame) → Leaving → Instr → Type 0
ShowsLeaving C line old before new after left instr =
    (image : Image) (number : ℕ) (own : List Home) → C image number own → (name : Naming) (homes : List l.Home) (frame : mm.Frame) (below : List mm.Suspended) (store : Store)
    → ActorIs image name old (working number own before) homes (mm.Works frame below) store
    → LeftAs image new number own after left homes (carried (acted (setting_of image number homes frame) instr (take (pops instr) frame.operands) store) homes frame line (drop (pops instr) frame.operands) below store)

left_call : (C : Circumstance) (line : ℕ) (old : Heap) (before : List Frame) (new : Heap) (after : List Frame) (left : Leaving) (instr : Instr) → IsNoError left → ShowsLeaving C line old before new after left instr → LeavesCall C line old before new after left instr
left_call C line old before new after way.Went instr no_error shows = λ image number own operands known name homes frame below store seen. shows image number own known name homes frame below store seen
left_call C line old before new after (way.Returned value) instr no_error shows = λ image number own operands known name homes frame below store seen. shows image number own known name homes frame below store seen
left_call C line old before new after (way.TooBig place) instr no_error shows = λ image number own operands known name homes frame below store seen. shows image number own known name homes frame below store seen
left_call C line old before new after (way.Raises error) instr no_error shows = absurd no_error

-- ---- `invalid`

invalid_left : (line : ℕ) (old new : Heap) (before after : List Frame) (left : Leaving) → Departs (Direct Invalid) line old before new after left
    → (image : Image) (number : ℕ) (own : List Home) (name : Naming) (homes : List l.Home) (frame : mm.Frame) (below : List mm.Suspended) (store : Store) → ActorIs image name old (working number own before) homes (mm.Works frame below) store
    → LeftAs image new number own after left homes (leave frame.kind (Scalar Invalid) (place_at frame.function line) below store)
invalid_left line old new before after left departs = λ image number own name homes frame below store seen.
    departs.is_left image number own name homes frame below store
    (
    stands_same name old.cells store (λ k. home_references k own + call_references k before) (λ k. home_references k own + (occurrence k (Direct Invalid) + call_references k before)) seen.stands (λ k. omega arith)
    )
    seen.homes_are seen.machine_is

pub invalid_returned : (line : ℕ) (old new : Heap) (before after : List Frame) (left : Leaving) → Departs (Direct Invalid) line old before new after left → LeavesCall Anywhere line old before new after left i.ReturnInvalid
invalid_returned line old new before after left departs = left_call Anywhere line old before new after left i.ReturnInvalid departs.no_error
    (λ image number own known name homes frame below store seen. invalid_left line old new before after left departs image number own name homes frame below store seen)

runs_as : (image : Image) (name : Naming) (before : List Frame) (frame : mm.Frame) (below : List mm.Suspended) (f : Function) (number : ℕ) (own : List Home) → MachineIs image name Works before (mm.Works frame below) → Runs f before image number own → frame.function ≡ f
runs_as image name [] frame below f number own seen runs = absurd seen
runs_as image name (x ∷ others) frame below f number own seen runs = runs_same image name x frame f seen.0 runs

pub ended : (f : Function) (old new : Heap) (before after : List Frame) (left : Leaving) → Departs (Direct Invalid) f.line old before new after left → (line : ℕ) → LeavesCall (Runs f before) line old before new after left i.End
ended f old new before after left departs line = left_call (Runs f before) line old before new after left i.End departs.no_error
    (λ image number own runs name homes frame below store seen.
    let same : frame.function ≡ f = runs_as image name before frame below f number own seen.machine_is runs in
    subst (λ (g : Function). LeftAs image new number own after left homes (leave frame.kind (Scalar Invalid) (place_at frame.function g.line) below store)) (sym same)
    (invalid_left f.line old new before after left departs image number own name homes frame below store seen))

-- ---- a value

return_acts : (image : Image) (number : ℕ) (name : Naming) (homes : List l.Home) (x : Frame) (frame : mm.Frame) (store : Store) (f : Function) (taken : Option Value)
    → FrameIs image name x frame → function_at image x.head.function ≡ Some f → 0 < length x.operands → typed f.value (meaning name (last_value x.operands)) ≡ option_map (meaning name) taken
    → acted (setting_of image number homes frame) i.Return (take 1 frame.operands) store ≡ leaves (option_map (meaning name) taken)
return_acts image number name homes x frame store f taken is runs there takes =
    ap (λ (g : Function). returns g.value (mm.values (take 1 frame.operands))) (runs_same image name x frame f is runs)
    ∙ ap (λ vs. returns f.value vs) (last_seen image name x frame is there)
    ∙ ap leaves takes

pub value_returned : (f : Function) (line : ℕ) (old mid new : Heap) (before middle after : List Frame) (u : Value) (left : Leaving) → 0 < length (operands_of before) → Takes f.value old before mid middle (Some u) → middle ≡ changed (without_operands 1) before
    → Departs u line mid middle new after left → LeavesCall (Runs f before) line old before new after left i.Return
value_returned f line old mid new [] middle after u left there takes fewer departs = absurd (omega arith)
value_returned f line old mid new (x ∷ others) middle after u left there takes fewer departs = left_call (Runs f (x ∷ others)) line old (x ∷ others) new after left i.Return departs.no_error
    (λ image number own runs name homes frame below store seen.
    let rest : mm.Frame = mm.with_operands (drop 1 frame.operands) frame in
    let seen_rest : MachineIs image name Works middle (mm.Works rest below) = subst (λ l. MachineIs image name Works l (mm.Works rest below)) (sym fewer) (operands_fewer image name x frame 1 seen.machine_is.0, seen.machine_is.1) in
    subst (λ act. LeftAs image new number own after left homes (carried act homes frame line (drop 1 frame.operands) below store))
    (sym (return_acts image number name homes x frame store f (Some u) seen.machine_is.0 runs there (takes.0 name store (λ k. home_references k own) seen.stands)))
    (departs.is_left image number own name homes rest below store (takes.1 name store (λ k. home_references k own) seen.stands) seen.homes_are seen_rest))

value_refused : (f : Function) (old : Heap) (before : List Frame) → 0 < length (operands_of before) → LastTakenAs f.value old before None → FaultedWhere (Runs f before) old before E2 i.Return
value_refused f old [] there takes = absurd (omega arith)
value_refused f old (x ∷ others) there takes = λ image number own runs name homes frame below store seen.
    return_acts image number name homes x frame store f None seen.machine_is.0 runs there (takes name store (λ k. home_references k own) seen.stands)

pub return_refused : (f : Function) (line : ℕ) (old mid : Heap) (before middle : List Frame) → 0 < length (operands_of before) → Takes f.value old before mid middle None → middle ≡ changed (without_operands 1) before
    → LeavesCall (Runs f before) line old before mid middle (way.Raises E2) i.Return
return_refused f line old mid before middle there takes fewer = (value_refused f old before there takes.0, takes.1, path_stays 1 before middle fewer)
