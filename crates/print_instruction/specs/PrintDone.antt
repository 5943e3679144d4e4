-- What the instruction of a `print` promises.
use Rattle.std.specs.Prelude.{◌≡◌, List}
use Rattle.heap_meaning.specs.Heap.{Heap}
use Rattle.brs_code.specs.declared.instr.Instr.{Instr}
use Rattle.frame_stack.specs.Frame.{Frame}
use Rattle.frame_actions.specs.Actions.{Carries}
use Rattle.actor_meaning.specs.declared.outcome.Outcome.TheVariants as o
use Rattle.instruction_effects.specs.Effects.{Circumstance, PerformedWhere, FaultedWhere}
use Rattle.printed_text.specs.declared.printing.Printing.{Printing}
use Rattle.printed_text.specs.declared.printing.Printing.TheVariants.{Printed, Raises}

-- in this circumstance the instruction was performed and shows its text, or finds this error, and then the calls are as they were
abbrev pub PrintDone : Circumstance → (old : Heap) → (before : List Frame) → (new : Heap) → (after : List Frame) → Printing → Instr → Type 0
PrintDone C old before new after (Printed text) instr = PerformedWhere C old before new after (o.Printed text) instr
PrintDone C old before new after (Raises error) instr = FaultedWhere C old before error instr × Carries old before new after × (after ≡ before)
