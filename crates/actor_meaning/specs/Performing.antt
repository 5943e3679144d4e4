-- What the function of one instruction promises. Each instruction has a function of its own, and its promise is its row of the table.
use Rattle.std.specs.Prelude.{List, take, drop, ◌≡◌, None, Some, slice_get}
use Rattle.chan_values.specs.declared.error_code.ErrorCode.{ErrorCode}
use Rattle.heap_meaning.specs.Store.{Store}
use Rattle.heap_meaning.specs.Stands.{Naming}
use Rattle.heap_meaning.specs.Heap.{Heap}
use Rattle.brs_code.specs.declared.instr.Instr.{Instr}
use Rattle.brs_code.specs.declared.instr.Placed.{Placed}
use Rattle.brs_code.specs.Instruction.{pops}
use Rattle.brs_meaning.specs.Locals as l
use Rattle.machine_meaning.specs.Image.{Image}
use Rattle.machine_meaning.specs.Frame as mm
use Rattle.machine_meaning.specs.Acted.{Faults}
use Rattle.machine_meaning.specs.Instructions.{acted}
use Rattle.machine_meaning.specs.Stepping.{Shown, Shows, Stuck, carried, setting_of, free_from}
use Rattle.actor_meaning.specs.declared.outcome.Outcome.{Outcome}
use Rattle.actor_meaning.specs.View.{Actor, ActorIs}
use Rattle.actor_meaning.specs.Showing.{OutcomeIs}
use Rattle.actor_meaning.specs.Promises.{SeenAs}

-- the outcome and the actor after it are what is shown; nothing is promised where the machine is stuck, which one at work never is
abbrev pub ShownAs : Image → Heap → Actor → Outcome → List l.Home → Shown → Type 0
ShownAs image heap a shown homes (Shows outcome machine store) = OutcomeIs shown outcome × SeenAs image heap a homes machine store
ShownAs image heap a shown homes Stuck = Unit {0}

-- the instruction, at this line, was performed by the innermost call
abbrev pub Performs : Image → Heap → Actor → Heap → Actor → Outcome → Placed → Type 0
Performs image old_heap old new_heap new shown x =
    (name : Naming) (homes : List l.Home) (frame : mm.Frame) (below : List mm.Suspended) (store : Store) → ActorIs image name old_heap old homes (mm.Works frame below) store
    → ShownAs image new_heap new shown homes
    (carried (acted (setting_of image old.number homes frame) x.instr (take (pops x.instr) frame.operands) store) homes frame x.line (drop (pops x.instr) frame.operands) below store)

-- as whatever it is seen, this instruction comes next and takes a step
abbrev pub ComesNext : Image → Heap → Actor → Placed → Type 0
ComesNext image heap a x =
    (name : Naming) (homes : List l.Home) (frame : mm.Frame) (below : List mm.Suspended) (store : Store) → ActorIs image name heap a homes (mm.Works frame below) store
    → (slice_get frame.function.code frame.place ≡ Some x) × (free_from (Some x) frame.operands frame.place ≡ None)

-- as whatever it is seen, the instruction raises this error
abbrev pub RaisesError : Image → Heap → Actor → Instr → ErrorCode → Type 0
RaisesError image heap a instr error =
    (name : Naming) (homes : List l.Home) (frame : mm.Frame) (below : List mm.Suspended) (store : Store) → ActorIs image name heap a homes (mm.Works frame below) store
    → acted (setting_of image a.number homes frame) instr (take (pops instr) frame.operands) store ≡ Faults error
