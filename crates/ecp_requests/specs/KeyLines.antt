-- The script lines of a request.
use Rattle.std.specs.Prelude.{ℕ, Bool, true, false, if◌then◌else◌, List, [], ◌∷◌, ◌++◌}
use Rattle.chan_values.specs.declared.key.Key.{Key}
use Rattle.chan_values.specs.declared.event.Event.TheVariants as event
use Rattle.script_text.specs.Lines.{line_of}
use Rattle.ecp_requests.specs.declared.request.Request.{Request}
use Rattle.ecp_requests.specs.declared.request.Request.TheVariants.{Keys}

-- a key line and the LF that ends it, where there is one
abbrev pub key_line : Bool → Key → Bool → List ℕ
key_line here key pressed = if here then line_of (event.Key key pressed) ++ 10 ∷ [] else []

-- a press comes before a release
abbrev pub key_lines : Request → List ℕ
key_lines (Keys key press release) = key_line press key true ++ key_line release key false
key_lines request = []
