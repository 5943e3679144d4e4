-- How operands lie in their two stacks: the values, and what each `for each` goes over, with its place among the values.
use Rattle.std.specs.Prelude.{◌≡◌, ℕ, ◌<◌, List, [], ◌∷◌, length, cond, ◌==◌, Option, Some, None}
use Rattle.heap_meaning.specs.Values.{Value}
use Rattle.frame_stack.specs.declared.each.Each.{Each}
use Rattle.frame_stack.specs.declared.operands.Loop.{Loop}
use Rattle.frame_stack.specs.Operand.{Operand, Holds, values, each_of}

-- the operands that values and loops are, the last of each first
abbrev pub seen : List Value → List Loop → List Operand
seen [] loops = []
seen (v ∷ vs) [] = Holds v ∷ seen vs []
seen (v ∷ vs) (l ∷ loops) = cond (l.at == length vs) (each_of l.each ∷ seen vs loops) (Holds v ∷ seen vs (l ∷ loops))

-- each loop has a place below so many, and below that of the loop before it
abbrev pub Ascend : List Loop → ℕ → Type 0
Ascend [] n = Unit {0}
Ascend (l ∷ loops) n = (l.at < n) × Ascend loops l.at

pub record IsLaidOut (vs : List Value) (loops : List Loop) : Type 0 where
  pub places : Ascend loops (length vs)
  -- at the places of loops the value is `invalid`
  pub fillers : values (seen vs loops) ≡ vs

-- what the loop of this place goes over, where the last loop has that place, and the loops without it
abbrev pub loop_at : List Loop → ℕ → Option Each
loop_at [] n = None
loop_at (l ∷ loops) n = cond (l.at == n) (Some l.each) None

abbrev pub loops_below : List Loop → ℕ → List Loop
loops_below [] n = []
loops_below (l ∷ loops) n = cond (l.at == n) loops (l ∷ loops)
