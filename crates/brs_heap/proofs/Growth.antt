-- What holds while an array grows.
use Rattle.std.proofs.Common.{◌≡◌, ◌≤◌, ◌+◌, ◌++◌, ℕ, List}
use Rattle.std.specs.Prelude.{replicate}
use Rattle.heap_meaning.specs.Values.{Value, filler}

-- so many fillers were added, and there is room for those that come and for one item more
pub record Growing (first items : List Value) (done len room more : ℕ) : Type 0 where
  pub items_are : items ≡ first ++ replicate done filler
  pub room_left : len + more + 1 ≤ room
