-- What holds while slots are added.
use Rattle.std.proofs.Common.{◌≡◌, ◌≤◌, ◌+◌, ◌++◌, ℕ, List, Option, None, replicate}
use Rattle.heap_meaning.specs.Values.{Value}

-- so many slots were added, and there is room for those that come
pub record Growing (first slots : List (Option Value)) (done len room more : ℕ) : Type 0 where
  pub slots_are : slots ≡ first ++ replicate done None
  pub room_left : len + more ≤ room
