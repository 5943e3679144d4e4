-- How a run of a folder under a script is answered, and what is written.
use Rattle.std.specs.Prelude.{◌≡◌, ℕ, Bool, true, false, ◌+◌, ◌&&◌, not, List, [], ◌++◌, length, Option, None, Some, is_some, if◌then◌else◌}
use Rattle.std.specs.List.{before_first, list_any}
use Rattle.chan_values.specs.declared.event.Event.{Event}
use Rattle.chan_values.specs.declared.event.Event.TheVariants.{Key, Turn, Round, Expire}
use Rattle.first_form.specs.declared.tree.FirstMain.{FirstMain}
use Rattle.outside.specs.declared.status.Status.{Status}
use Rattle.outside.specs.declared.status.Status.TheVariants as status
use Rattle.channel_run.specs.declared.script.Script.{Script}
use Rattle.channel_run.specs.FirstText.{run_of, last_lines}

-- keys aren't built
abbrev pub is_key : Event → Bool
is_key (Key key pressed) = true
is_key (Turn actor n) = false
is_key (Round n) = false
is_key (Expire actor) = false

abbrev pub has_key : Script → Bool
has_key script = list_any is_key script.events

-- a bad line comes first; else what isn't built, of the folder or of the script
abbrev pub answer_of : Option FirstMain → Script → Status
answer_of main script =
    if script.has_bad_line then status.BadScript (length script.events + 1)
    else if is_some main && not (has_key script) then status.Done else status.NotYet

-- the script holds no bad line and no key
abbrev pub is_whole : Script → Bool
is_whole script = not script.has_bad_line && not (has_key script)

-- The trace of the lines before the first key or bad line. Where there is neither, the end line and the report follow.
abbrev pub first_text : FirstMain → Script → ℕ → List ℕ
first_text main script bound =
    let run = run_of main (before_first is_key script.events) bound in
    run.trace ++ (if is_whole script then last_lines run.end else [])

-- nothing is written for a folder that isn't of the first form
abbrev pub run_text : Option FirstMain → Script → ℕ → List ℕ
run_text None script bound = []
run_text (Some main) script bound = first_text main script bound

-- the answers at which the whole text was written
abbrev pub IsThrough : Status → Type 0
IsThrough status.Done = Unit {0}
IsThrough (status.Refused fault) = Unit {0}
IsThrough status.ChannelError = ⊥
IsThrough (status.BadScript line) = Unit {0}
IsThrough status.ReadFault = ⊥
IsThrough status.WriteFault = ⊥
IsThrough status.DoorFault = ⊥
IsThrough status.BadWords = ⊥
IsThrough status.NoMemory = ⊥
IsThrough status.NotYet = Unit {0}
