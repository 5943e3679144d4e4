-- A script as the events that its lines say.
use Rattle.std.specs.Prelude.{◌≡◌, ℕ, Bool, true, false, ◌+◌, ◌≤◌, ◌==◌, List, [], ◌∷◌, length, fold, if◌then◌else◌}
use Rattle.chan_values.specs.declared.event.Event.{Event}
use Rattle.script_text.specs.Lines.{Says}
use Rattle.channel_run.specs.declared.script.Script.{Script}

abbrev pub is_line_feed : ℕ → Bool
is_line_feed b = b == 10

-- lines that begin with one more byte
abbrev pub with_byte : ℕ → List (List ℕ) → List (List ℕ)
with_byte b [] = (b ∷ []) ∷ []
with_byte b (line ∷ lines) = (b ∷ line) ∷ lines

-- the lines of a text, each without the LF that ends it, which the last one may lack
abbrev pub lines_of : List ℕ → List (List ℕ)
lines_of [] = []
lines_of (b ∷ bytes) = if is_line_feed b then [] ∷ lines_of bytes else with_byte b (lines_of bytes)

-- a script line that says the event, without a byte 16,777,217
pub record IsLineOf (event : Event) (line : List ℕ) : Type 0 where
  pub short : length line ≤ 16777216
  pub says : Says line event

abbrev pub IsBadLine : List ℕ → Type 0
IsBadLine line = (event : Event) → IsLineOf event line → ⊥

-- the events of the lines up to the first bad one, and whether there is a bad one
abbrev pub LinesSay : List (List ℕ) → List Event → Bool → Type 0
LinesSay [] [] bad = bad ≡ false
LinesSay [] (event ∷ events) bad = ⊥
LinesSay (line ∷ lines) [] bad = IsBadLine line × (bad ≡ true)
LinesSay (line ∷ lines) (event ∷ events) bad = IsLineOf event line × LinesSay lines events bad

abbrev pub ScriptSays : List ℕ → Script → Type 0
ScriptSays bytes script = LinesSay (lines_of bytes) script.events script.has_bad_line

-- the bytes say this script, and no other one
pub record IsScriptOf (bytes : List ℕ) (script : Script) : Type 0 where
  pub says : ScriptSays bytes script
  pub only : (other : Script) → ScriptSays bytes other → other ≡ script

-- how many bytes of a line stand at the end, after this many of it
abbrev pub unended_after : ℕ → List ℕ → ℕ
unended_after before bytes = fold (λ n b. if is_line_feed b then 0 else n + 1) before bytes

-- how many bytes follow the last LF
abbrev pub unended_length : List ℕ → ℕ
unended_length bytes = unended_after 0 bytes
