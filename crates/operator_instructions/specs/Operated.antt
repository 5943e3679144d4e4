-- What an instruction promises that applies an operation to its operands.
use Rattle.std.specs.Prelude.{◌≡◌, ℕ, List, length, reverse, Option, Some, None}
use Rattle.chan_values.specs.declared.error_code.ErrorCode.{ErrorCode}
use Rattle.heap_meaning.specs.Store.{Store}
use Rattle.heap_meaning.specs.Heap.{Heap}
use Rattle.brs_code.specs.declared.instr.Instr.{Instr}
use Rattle.brs_code.specs.Instruction.{pops}
use Rattle.brs_builtins.specs.declared.operation.Operation.{Operation}
use Rattle.brs_builtins.specs.Table.{applied}
use Rattle.brs_meaning.specs.Given.{answered}
use Rattle.machine_meaning.specs.Frame.{Operand, values}
use Rattle.machine_meaning.specs.Setting.{Setting, gives}
use Rattle.machine_meaning.specs.Instructions.{acted}
use Rattle.frame_stack.specs.Frame.{Frame}
use Rattle.frame_actions.specs.Actions.{Carries}
use Rattle.actor_meaning.specs.declared.outcome.Outcome.TheVariants.{Went}
use Rattle.actor_meaning.specs.Performed.{Performed, Faulted}

-- the instruction was performed, or finds this error, and then the calls are as they were
abbrev pub Operated : Option ErrorCode → (old : Heap) → (before : List Frame) → (new : Heap) → (after : List Frame) → Instr → Type 0
Operated None old before new after instr = Performed old before new after Went instr
Operated (Some error) old before new after instr = Faulted old before error instr × Carries old before new after × (after ≡ before)

-- the instruction takes so many operands, and gives what the operation gives of them
pub record IsOperation (instr : Instr) (n : ℕ) (operation : Operation) : Type 0 where
  pub takes : pops instr ≡ n
  pub row : (s : Setting) (operands : List Operand) (store : Store) → length operands ≡ n → acted s instr operands store ≡ gives s (answered (applied operation (reverse (values operands)) store))
