-- The moments of a run: how its world comes to the next one.
use Rattle.std.specs.Prelude.{◌≡◌, ℕ, ◌≤◌, ◌<◌, Bool, Some}
use Rattle.chan_values.specs.declared.key.Key.{Key}
use Rattle.world_meaning.specs.Channel.{Channel}
use Rattle.world_meaning.specs.Core.{Moved}
use Rattle.world_meaning.specs.Steps.{step}
use Rattle.channel_meaning.specs.World.{World, stepped, out_of_steps, key_comes, expire, opening}

-- from one moment to the next
pub data Moment (ch : Channel) (bound : ℕ) (w v : World) : Type 0 where
  -- an actor makes its step
  Steps : (actor : ℕ) (m : Moved) → step ch actor w.core ≡ Some m → w.steps < bound → v ≡ stepped m w → Moment ch bound w v
  -- an actor could make a step, but the bound is used up
  RunsOut : (actor : ℕ) (m : Moved) → step ch actor w.core ≡ Some m → bound ≤ w.steps → v ≡ out_of_steps w → Moment ch bound w v
  -- a key comes; the wait of an actor expires
  KeyComes : (key : Key) (press : Bool) → v ≡ key_comes w.core.ending key press w → Moment ch bound w v
  Expires : (actor : ℕ) → v ≡ expire ch actor w → Moment ch bound w v

-- a world leads to another over any number of moments
pub data Leads (ch : Channel) (bound : ℕ) (w : World) : World → Type 0 where
  here : Leads ch bound w w
  onward : {v u : World} → Leads ch bound w v → Moment ch bound v u → Leads ch bound w u

-- a world that a run passes on its way to its last one
pub record IsPassed (ch : Channel) (bound : ℕ) (last w : World) : Type 0 where
  pub from : Leads ch bound (opening ch) w
  pub to : Leads ch bound w last
