-- What the instructions of a `for` change in the innermost call.
use Rattle.std.specs.Prelude.{ℕ, Bool, true, false}
use Rattle.heap_meaning.specs.Values.{Direct}
use Rattle.frame_stack.specs.Frame.{Frame, with_slot}
use Rattle.frame_actions.specs.Actions.{at_place, dropped, pushed}
use Rattle.loop_instructions.specs.declared.numbers.Number.{Number}
use Rattle.loop_instructions.specs.declared.numbers.Range.{Range}
use Rattle.loop_instructions.specs.Numbers.{plain_number}

abbrev pub with_number : (slot : ℕ) → Number → Frame → Frame
with_number slot n x = with_slot slot (Direct (plain_number n)) x

-- the end and the step stand in the place of so many operands, and the variable is set to the start
abbrev pub begun : (slot taken to : ℕ) → Range → Frame → Frame
begun slot taken to r x = with_number slot r.start (pushed (Direct (plain_number r.step)) to (pushed (Direct (plain_number r.end)) to (dropped taken to x)))

-- the loop goes on, or what it kept is gone
abbrev pub turned : Bool → (body behind : ℕ) → Frame → Frame
turned true body behind x = at_place body x
turned false body behind x = dropped 2 behind x
