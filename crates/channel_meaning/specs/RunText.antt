-- The text of a run: its trace, its end line and its report.
use Rattle.std.specs.Prelude.{◌≡◌, ℕ, List, [], ◌∷◌, ◌++◌, flat_map, unwrap_or, slice_get, codes, decimal, ◌==◌, if◌then◌else◌}
use Rattle.chan_values.specs.declared.end_reason.EndReason.TheVariants as why
use Rattle.chan_values.specs.declared.event.Event.{Event}
use Rattle.chan_values.specs.Escape.{escaped}
use Rattle.chan_values.specs.ErrorNumber.{error_number}
use Rattle.chan_values.specs.Folded.{folded}
use Rattle.field_observers.specs.declared.target.Target.{Target}
use Rattle.field_observers.specs.declared.target.Target.TheVariants as target
use Rattle.script_text.specs.Lines.{Says}
use Rattle.trace_report.specs.declared.trace.TraceLine.TheVariants as line
use Rattle.trace_report.specs.TraceText.{print_line, error_line, ended_line, end_line, key_line, trace_text}
use Rattle.brs_grammar.specs.Form.{Text}
use Rattle.world_meaning.specs.Channel.{Channel}
use Rattle.channel_meaning.specs.History.{Line, Printed, Failed, Returned, Posted, Began, Ended, Started, Stopped, Dropped, Notified, Visited}
use Rattle.channel_meaning.specs.World.{World, run}
use Rattle.channel_meaning.specs.Report.{report}

-- ---- the bytes of a line

-- the path of a file by its number
abbrev pub path_of : List Text → ℕ → Text
path_of paths n = unwrap_or (slice_get paths n) []

-- a function by its folded name, or a port
abbrev pub target_text : Target → List ℕ
target_text (target.Function home name) = escaped (folded name)
target_text (target.Port port) = codes "port." ++ decimal port

abbrev pub notify_line : ℕ → Text → Target → List ℕ
notify_line n f to = codes "0 notify " ++ (decimal n ++ (codes "." ++ (escaped f ++ (codes " " ++ (target_text to ++ 10 ∷ [])))))

abbrev pub line_text : List Text → Line → List ℕ
line_text paths (Printed a text) = print_line a text
line_text paths (Failed a e at) = error_line a (error_number e) (path_of paths at.path) at.line
line_text paths (Returned a) = ended_line a
line_text paths (Posted a number) = trace_text (line.Post a number)
line_text paths (Began name) = trace_text (line.Begin name)
line_text paths (Ended name) = trace_text (line.End name)
line_text paths (Started a n) = trace_text (line.Start a n)
line_text paths (Stopped a) = trace_text (line.Stop a)
line_text paths (Dropped a number) = trace_text (line.Dropped a number)
line_text paths (Notified n f r) = notify_line n f r.target
line_text paths (Visited key press n taken) = key_line key press n taken

abbrev pub trace_bytes : List Text → List Line → List ℕ
trace_bytes paths lines = flat_map (line_text paths) lines

-- ---- the whole text

-- a script that is read to its end ends a run that hasn't ended
abbrev pub run_text : Channel → World → List ℕ
run_text ch w = trace_bytes ch.paths w.history.trace ++ (end_line (unwrap_or w.core.ending why.Script) ++ report w.core.nodes)

-- ---- the events of a script

-- lines of which the first begins with one more byte
abbrev pub with_byte : ℕ → List (List ℕ) → List (List ℕ)
with_byte b [] = (b ∷ []) ∷ []
with_byte b (line ∷ lines) = (b ∷ line) ∷ lines

-- the lines of a text, each without the LF that ends it, which the last one may lack
abbrev pub lines_of : List ℕ → List (List ℕ)
lines_of [] = []
lines_of (b ∷ bytes) = if b == 10 then [] ∷ lines_of bytes else with_byte b (lines_of bytes)

abbrev pub LinesSay : List (List ℕ) → List Event → Type 0
LinesSay [] [] = Unit {0}
LinesSay (line ∷ lines) (e ∷ events) = Says line e × LinesSay lines events
LinesSay _ _ = ⊥

-- the text of the run of a channel on a script whose lines are all good, with a bound on steps
pub record IsRunText (ch : Channel) (script : List ℕ) (bound : ℕ) (text : List ℕ) : Type 0 where
  pub events : List Event
  pub says : LinesSay (lines_of script) events
  pub is : text ≡ run_text ch (run ch bound events)
