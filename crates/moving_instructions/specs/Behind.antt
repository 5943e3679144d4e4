-- The place behind the next instruction of the innermost call.
use Rattle.std.specs.Prelude.{◌≡◌, ℕ, ◌+◌, ◌<◌, ◌^◌, List, IfSome}
use Rattle.frame_stack.specs.Frame.{Frame, innermost}

abbrev pub IsBehind : List Frame → ℕ → Type 0
IsBehind frames to = IfSome (innermost frames) (λ x. to ≡ x.head.place + 1)

-- it has a number that the machine can count to
abbrev pub HasPlaceBehind : List Frame → Type 0
HasPlaceBehind frames = IfSome (innermost frames) (λ x. x.head.place + 1 < 2 ^ 64)
