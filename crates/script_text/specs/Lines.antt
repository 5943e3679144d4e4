-- The lines of a script.
use Rattle.std.specs.Prelude.{◌≡◌, ℕ, ◌^◌, ◌<◌, Bool, if◌then◌else◌, List, ◌++◌, codes}
use Rattle.std.specs.Fmt.{decimal}
use Rattle.script_text.specs.Keys.{key_text, IsKey}
use Rattle.chan_values.specs.declared.event.Event.{Event}
use Rattle.chan_values.specs.declared.event.Event.TheVariants.{Key, Turn, Round, Expire}

abbrev pub press_word : Bool → List ℕ
press_word pressed = if pressed then codes " press" else codes " release"

-- the line of an event, without the LF that ends it
abbrev pub line_of : Event → List ℕ
line_of (Key key pressed) = codes "key " ++ key_text key ++ press_word pressed
line_of (Turn actor steps) = codes "turn " ++ decimal actor ++ (codes " " ++ decimal steps)
line_of (Round steps) = codes "round " ++ decimal steps
line_of (Expire actor) = codes "expire " ++ decimal actor

-- a number is at most 4,294,967,295, and a literal key is a character
abbrev pub IsEvent : Event → Type 0
IsEvent (Key key pressed) = IsKey key
IsEvent (Turn actor steps) = (actor < 2 ^ 32) × (steps < 2 ^ 32)
IsEvent (Round steps) = steps < 2 ^ 32
IsEvent (Expire actor) = actor < 2 ^ 32

-- the line is that of the event
pub record Says (line : List ℕ) (event : Event) : Type 0 where
  pub in_range : IsEvent event
  pub spelled : line ≡ line_of event
