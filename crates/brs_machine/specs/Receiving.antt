-- A value that comes back to the innermost call.
use Rattle.std.specs.Prelude.{◌≡◌}
use Rattle.heap_meaning.specs.Values.{Value}
use Rattle.heap_meaning.specs.Heap.{Heap}
use Rattle.actor_meaning.specs.declared.phase.Phase.TheVariants.{Works}
use Rattle.actor_meaning.specs.View.{Actor}
use Rattle.return_instructions.specs.Landed.{Lands, Settles}

-- the innermost call has its value and goes on, and nothing else of the actor changes
pub record Receives (old_heap : Heap) (old : Actor) (new_heap : Heap) (new : Actor) (v : Value) : Type 0 where
  pub number : new.number ≡ old.number
  pub homes : new.homes ≡ old.homes
  pub phase : new.phase ≡ Works
  pub lands : Lands v old.frames new.frames
  pub settles : Settles v old_heap old.frames new_heap new.frames
