-- How the calls in progress lie in one stack of operands and one of slots: each has what lies above the place where it begins.
use Rattle.std.specs.Prelude.{◌≡◌, ℕ, ◌-◌, ◌≤◌, List, [], ◌∷◌, length, take, drop, Option, Some, None}
use Rattle.frame_stack.specs.declared.header.Header.{Header}
use Rattle.frame_stack.specs.Operand.{Operand}
use Rattle.frame_stack.specs.Frame.{Slots, Frame}

abbrev pub frame_of : Header → List Operand → Slots → Frame
frame_of h operands slots = record { head = h.head; m = h.m; operands = take (length operands - h.operands) operands; slots = drop h.slots slots }

-- the innermost call comes first, and so does the last operand
abbrev pub frames_of : List Header → List Operand → Slots → List Frame
frames_of [] operands slots = []
frames_of (h ∷ headers) operands slots = frame_of h operands slots ∷ frames_of headers (drop (length operands - h.operands) operands) (take h.slots slots)

-- the header of the innermost call before those below it
abbrev pub headers_of : Option Header → List Header → List Header
headers_of None below = []
headers_of (Some h) below = h ∷ below

-- each call begins within so many operands and slots, and those below it end where it begins
abbrev pub Begin : List Header → (operands slots : ℕ) → Type 0
Begin [] n s = Unit {0}
Begin (h ∷ headers) n s = (h.operands ≤ n) × (h.slots ≤ s) × Begin headers h.operands h.slots

pub record IsCut (top : Option Header) (below : List Header) (operands slots : ℕ) : Type 0 where
  pub begin : Begin (headers_of top below) operands slots
  -- without an innermost call there is none
  pub whole : top ≡ None → below ≡ []
