-- What an instruction does with the operands that it takes.
use Rattle.std.specs.Prelude.{ℕ, List, Option}
use Rattle.chan_values.specs.declared.error_code.ErrorCode.{ErrorCode}
use Rattle.heap_meaning.specs.Values.{StoreValue}
use Rattle.heap_meaning.specs.Store.{Store}
use Rattle.brs_grammar.specs.Form.{Text}
use Rattle.brs_meaning.specs.Request.{Request}
use Rattle.brs_code.specs.declared.function.Function.{Function}
use Rattle.machine_meaning.specs.Frame.{Operand, Slots, Landing}

pub data Acted : Type 0 where
  -- the slots and the store after it, the operands that it puts on the others, and the place of the next instruction
  Goes : Slots → Store → (back : List Operand) → (to : ℕ) → Acted
  -- a call of a function of the source, with this `m`, or with that of the home
  Calls : Function → (m : Option StoreValue) → (arguments : List StoreValue) → Acted
  -- an answer is asked for, above these operands
  Asks : Request → (back : List Operand) → Landing → Acted
  Prints : Text → Acted
  -- the function is left with a value, or at its end
  Leaves : StoreValue → Acted
  Ends : Acted
  Faults : ErrorCode → Acted
  -- what no instruction of valid code does
  Lost : Acted
