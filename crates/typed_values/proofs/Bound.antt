-- A parameter that is bound to the last operand.
use Rattle.std.proofs.Common.{◌≡◌, ℕ, ◌+◌, ◌<◌, List, [], ◌∷◌, length, take, drop, Option, Some, None, sym, ap, ◌∙◌, subst, arith}
use Rattle.std.specs.Prelude.{slice_get}
use Rattle.std.specs.Option.{option_map}
use Rattle.chan_values.specs.declared.error_code.ErrorCode.TheVariants.{E2}
use Rattle.heap_meaning.specs.Values.{Value}
use Rattle.heap_meaning.specs.Store.{Store}
use Rattle.heap_meaning.specs.Stands.{Naming, meaning}
use Rattle.heap_meaning.specs.Heap.{Heap}
use Rattle.brs_code.specs.declared.function.Function.{Function}
use Rattle.brs_code.specs.declared.function.Parameter.{Parameter}
use Rattle.brs_code.specs.declared.instr.Instr.TheVariants as i
use Rattle.brs_meaning.specs.Locals as l
use Rattle.machine_meaning.specs.Image.{Image, function_at}
use Rattle.machine_meaning.specs.Frame as mm
use Rattle.machine_meaning.specs.Acted.{Goes}
use Rattle.machine_meaning.specs.Setting.{Setting}
use Rattle.machine_meaning.specs.Statements.{typed, binds, bind}
use Rattle.machine_meaning.specs.Instructions.{acted}
use Rattle.machine_meaning.specs.Stepping.{setting_of}
use Rattle.frame_stack.specs.Frame.{Frame, without_operands, with_slot, operands_of, changed}
use Rattle.frame_actions.specs.Actions.{at_place, last_value, Carries}
use Rattle.actor_meaning.specs.declared.outcome.Outcome.TheVariants.{Went}
use Rattle.actor_meaning.specs.View.{home_references, FrameIs}
use Rattle.actor_meaning.specs.Performed.{working}
use Rattle.actor_meaning.proofs.Moves.{place_seen, place_moved, operands_fewer, slot_more, went}
use Rattle.actor_errors.specs.Raising.{path_of}
use Rattle.instruction_effects.specs.Effects.{Runs, PerformedWhere, FaultedWhere}
use Rattle.moving_instructions.specs.Behind.{IsBehind}
use Rattle.moving_instructions.proofs.Values.{last_seen}
use Rattle.typed_values.specs.Taken.{LastTakenAs}

-- the call that runs a function is seen as one of that function
pub runs_same : (image : Image) (name : Naming) (x : Frame) (frame : mm.Frame) (f : Function) → FrameIs image name x frame → function_at image x.head.function ≡ Some f → frame.function ≡ f
runs_same image name x frame f is runs = let e : Some frame.function ≡ Some f = sym is.function ∙ runs in cc

-- ---- what the instruction does

bind_acts : (image : Image) (number : ℕ) (name : Naming) (homes : List l.Home) (x : Frame) (frame : mm.Frame) (store : Store) (f : Function) (n : ℕ) (parameter : Parameter) (taken : Option Value)
    → FrameIs image name x frame → function_at image x.head.function ≡ Some f → slice_get f.parameters n ≡ Some parameter → 0 < length x.operands → typed parameter.kind (meaning name (last_value x.operands)) ≡ option_map (meaning name) taken
    → acted (setting_of image number homes frame) (i.Bind n) (take 1 frame.operands) store ≡ binds (setting_of image number homes frame) parameter.slot (option_map (meaning name) taken) store
bind_acts image number name homes x frame store f n parameter taken is runs has there takes =
    let s : Setting = setting_of image number homes frame in
    ap (λ (g : Function). bind s (slice_get g.parameters n) (mm.values (take 1 frame.operands)) store) (runs_same image name x frame f is runs)
    ∙ ap (λ o. bind s o (mm.values (take 1 frame.operands)) store) has
    ∙ ap (λ vs. bind s (Some parameter) vs store) (last_seen image name x frame is there)
    ∙ ap (λ o. binds s parameter.slot o store) takes

-- ---- the value is in the slot

-- the innermost call after it
abbrev pub put : (slot : ℕ) → Value → (to : ℕ) → Frame → Frame
put n v to x = at_place to (with_slot n v (without_operands 1 x))

pub put_is : (n to : ℕ) (v : Value) (f0 f1 f2 f3 : List Frame) → f1 ≡ changed (without_operands 1) f0 → f2 ≡ changed (with_slot n v) f1 → f3 ≡ changed (at_place to) f2 → f3 ≡ changed (put n v to) f0
put_is n to v [] f1 f2 f3 a b c = c ∙ ap (λ l. changed (at_place to) l) (b ∙ ap (changed (with_slot n v)) a)
put_is n to v (x ∷ below) f1 f2 f3 a b c = c ∙ ap (λ l. changed (at_place to) l) (b ∙ ap (changed (with_slot n v)) a)

put_seen : (image : Image) (name : Naming) (x : Frame) (frame : mm.Frame) (n to : ℕ) (v : Value) → FrameIs image name x frame
    → FrameIs image name (put n v to x) (record frame { place = to; operands = drop 1 frame.operands; slots = mm.with_slot n (meaning name v) frame.slots })
put_seen image name x frame n to v is =
    let rest : mm.Frame = mm.with_operands (drop 1 frame.operands) frame in
    let set : mm.Frame = record rest { slots = mm.with_slot n (meaning name v) frame.slots } in
    place_moved image name (with_slot n v (without_operands 1 x)) set to (slot_more image name (without_operands 1 x) rest n v (operands_fewer image name x frame 1 is))

put_performed : (old new : Heap) (x : Frame) (below : List Frame) (f : Function) (n : ℕ) (parameter : Parameter) (v : Value) (to : ℕ) → 0 < length x.operands → to ≡ x.head.place + 1 → slice_get f.parameters n ≡ Some parameter
    → LastTakenAs parameter.kind old (x ∷ below) (Some v) → Carries old (x ∷ below) new (put parameter.slot v to x ∷ below)
    → PerformedWhere (Runs f (x ∷ below)) old (x ∷ below) new (put parameter.slot v to x ∷ below) Went (i.Bind n)
put_performed old new x below f n parameter v to there behind has takes carries = λ image number own line operands runs name homes frame waiting store seen.
    let is : FrameIs image name x frame = seen.machine_is.0 in
    let slots : mm.Slots = mm.with_slot parameter.slot (meaning name v) frame.slots in
    went image new (working number own (put parameter.slot v to x ∷ below)) homes frame line (drop 1 frame.operands) waiting store store (acted (setting_of image number homes frame) (i.Bind n) (take 1 frame.operands) store) slots [] to
    (bind_acts image number name homes x frame store f n parameter (Some v) is runs has there (takes name store (λ k. home_references k own) seen.stands) ∙ ap (λ p. Goes slots store [] p) (place_seen image name x frame to is behind))
    (record {
      naming = name;
      is = record {
        stands = carries name store (λ k. home_references k own) seen.stands;
        homes_are = seen.homes_are;
        machine_is = (put_seen image name x frame parameter.slot to v is, seen.machine_is.1);
      };
    })

pub bound : (old new : Heap) (before after : List Frame) (f : Function) (n : ℕ) (parameter : Parameter) (v : Value) (to : ℕ) → 0 < length (operands_of before) → IsBehind before to → slice_get f.parameters n ≡ Some parameter
    → LastTakenAs parameter.kind old before (Some v) → Carries old before new after → after ≡ changed (put parameter.slot v to) before → PerformedWhere (Runs f before) old before new after Went (i.Bind n)
bound old new [] after f n parameter v to there behind has takes carries e = absurd (omega arith)
bound old new (x ∷ below) after f n parameter v to there behind has takes carries e =
    subst (λ l. PerformedWhere (Runs f (x ∷ below)) old (x ∷ below) new l Went (i.Bind n)) (sym e)
    (put_performed old new x below f n parameter v to there behind has takes (subst (λ l. Carries old (x ∷ below) new l) e carries))

-- ---- the type doesn't take the value

pub unbound : (old : Heap) (before : List Frame) (f : Function) (n : ℕ) (parameter : Parameter) → 0 < length (operands_of before) → slice_get f.parameters n ≡ Some parameter → LastTakenAs parameter.kind old before None
    → FaultedWhere (Runs f before) old before E2 (i.Bind n)
unbound old [] f n parameter there has takes = absurd (omega arith)
unbound old (x ∷ below) f n parameter there has takes = λ image number own runs name homes frame waiting store seen.
    bind_acts image number name homes x frame store f n parameter None seen.machine_is.0 runs has there (takes name store (λ k. home_references k own) seen.stands)

pub path_stays : (n : ℕ) (before after : List Frame) → after ≡ changed (without_operands n) before → path_of after ≡ path_of before
path_stays n [] after e = ap path_of e
path_stays n (x ∷ below) after e = ap path_of e
