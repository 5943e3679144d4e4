-- What an operation on the arguments of a call promises, whichever instruction makes the call.
use Rattle.std.specs.Prelude.{◌≡◌, ℕ, List, take, map}
use Rattle.heap_meaning.specs.Store.{Store}
use Rattle.heap_meaning.specs.Stands.{Naming, meaning}
use Rattle.heap_meaning.specs.Heap.{Heap}
use Rattle.brs_code.specs.declared.instr.Instr.{Instr}
use Rattle.brs_code.specs.Instruction.{pops}
use Rattle.brs_builtins.specs.declared.operation.Operation.{Operation}
use Rattle.brs_builtins.specs.Table.{applied}
use Rattle.brs_meaning.specs.Given.{answered}
use Rattle.brs_meaning.specs.Locals as l
use Rattle.machine_meaning.specs.Image.{Image}
use Rattle.machine_meaning.specs.Frame as mm
use Rattle.machine_meaning.specs.Setting.{gives}
use Rattle.machine_meaning.specs.Instructions.{acted}
use Rattle.machine_meaning.specs.Stepping.{setting_of}
use Rattle.frame_stack.specs.Frame.{Frame}
use Rattle.frame_actions.specs.Actions.{Carries}
use Rattle.actor_meaning.specs.declared.outcome.Outcome.TheVariants.{Went}
use Rattle.actor_meaning.specs.View.{Home, ActorIs}
use Rattle.actor_meaning.specs.Performing.{Performs, RaisesError}
use Rattle.actor_meaning.specs.Performed.{working}
use Rattle.instruction_effects.specs.declared.effect.Effect.{Effect}
use Rattle.instruction_effects.specs.declared.effect.Effect.TheVariants as e
use Rattle.method_instructions.specs.Callees.{last_values}

-- in this channel and actor the instruction takes n operands, and gives what the operation gives of the last k of them
pub record GivesOf (image : Image) (number : ℕ) (own : List Home) (heap : Heap) (frames : List Frame) (instr : Instr) (n k : ℕ) (operation : Operation) : Type 0 where
  pub takes : pops instr ≡ n
  pub row : (name : Naming) (homes : List l.Home) (frame : mm.Frame) (waiting : List mm.Suspended) (store : Store)
      → ActorIs image name heap (working number own frames) homes (mm.Works frame waiting) store
      → acted (setting_of image number homes frame) instr (take (pops instr) frame.operands) store
      ≡ gives (setting_of image number homes frame) (answered (applied operation (map (meaning name) (last_values k frames)) store))

-- whichever instruction it is that does so, it was performed, or raises this error, and then the calls are as they were
abbrev pub OperatedOn : Effect → (old : Heap) → (before : List Frame) → (new : Heap) → (after : List Frame) → (n k : ℕ) → Operation → Type 0
OperatedOn e.Went old before new after n k operation =
    (image : Image) (number : ℕ) (own : List Home) (instr : Instr) (line operands : ℕ) → GivesOf image number own old before instr n k operation
    → Performs image old (working number own before) new (working number own after) Went (record { instr = instr; line = line; operands = operands })
OperatedOn (e.Raises error) old before new after n k operation =
    ((image : Image) (number : ℕ) (own : List Home) (instr : Instr) → GivesOf image number own old before instr n k operation → RaisesError image old (working number own before) instr error)
    × Carries old before new after
    × (after ≡ before)
OperatedOn (e.Asks request) old before new after n k operation = ⊥
