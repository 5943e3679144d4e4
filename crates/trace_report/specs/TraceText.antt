-- The bytes of a transcript line.
use Rattle.std.specs.Prelude.{ℕ, Bool, List, [], ◌∷◌, ◌++◌, codes, decimal, if◌then◌else◌}
use Rattle.script_text.specs.Lines.{line_of}
use Rattle.chan_values.specs.declared.key.Key.{Key}
use Rattle.chan_values.specs.declared.event.Event.TheVariants as event
use Rattle.chan_values.specs.declared.end_reason.EndReason.{EndReason}
use Rattle.chan_values.specs.declared.end_reason.EndReason.TheVariants as reason
use Rattle.chan_values.specs.ErrorNumber.{error_number}
use Rattle.trace_report.specs.declared.entry.EntryName.{EntryName}
use Rattle.trace_report.specs.declared.entry.EntryName.TheVariants as entry
use Rattle.trace_report.specs.declared.observer.Observer.{Observer}
use Rattle.trace_report.specs.declared.observer.Observer.TheVariants as observer
use Rattle.trace_report.specs.declared.trace.TraceLine.{TraceLine}
use Rattle.trace_report.specs.declared.trace.TraceLine.TheVariants as line
use Rattle.chan_values.specs.Escape.{escaped}

-- two numbers with a dot between them
abbrev pub dotted : ℕ → ℕ → List ℕ
dotted left right = decimal left ++ (codes "." ++ decimal right)

abbrev pub entry_text : EntryName → List ℕ
entry_text (entry.Post actor number) = dotted actor number
entry_text (entry.Key number) = codes "key." ++ decimal number

abbrev pub observer_text : Observer → List ℕ
observer_text (observer.Function name) = escaped name.now
observer_text (observer.Port port) = codes "port." ++ decimal port

abbrev pub reason_word : EndReason → List ℕ
reason_word reason.Main = codes "main"
reason_word reason.Error = codes "error"
reason_word reason.Back = codes "back"
reason_word reason.Steps = codes "steps"
reason_word reason.Script = codes "script"
reason_word reason.Unbuilt = codes "unbuilt"

-- ---- each line by its parts

abbrev pub print_line : ℕ → List ℕ → List ℕ
print_line actor text = decimal actor ++ (codes " print " ++ (escaped text ++ 10 ∷ []))

abbrev pub error_line : ℕ → ℕ → List ℕ → ℕ → List ℕ
error_line actor number path line = decimal actor ++ (codes " error " ++ (decimal number ++ (codes " " ++ (escaped path ++ (codes ":" ++ (decimal line ++ 10 ∷ []))))))

abbrev pub ended_line : ℕ → List ℕ
ended_line actor = decimal actor ++ (codes " ended" ++ 10 ∷ [])

abbrev pub end_line : EndReason → List ℕ
end_line reason = codes "end " ++ (reason_word reason ++ 10 ∷ [])

-- a key as its script line spells it, and whether the node's handler took it
abbrev pub key_line : Key → Bool → ℕ → Bool → List ℕ
key_line key press node handled =
    codes "0 " ++ (line_of (event.Key key press) ++ (codes " " ++ (decimal node ++ (codes " " ++ ((if handled then codes "true" else codes "false") ++ 10 ∷ [])))))

-- ---- and all of them

abbrev pub trace_text : TraceLine → List ℕ
trace_text (line.Print actor text) = print_line actor text.now
trace_text (line.Error actor code path at) = error_line actor (error_number code) path.now at
trace_text (line.Post actor number) = decimal actor ++ (codes " post " ++ (decimal number ++ 10 ∷ []))
trace_text (line.Begin entry) = codes "0 begin " ++ (entry_text entry ++ 10 ∷ [])
trace_text (line.End entry) = codes "0 end " ++ (entry_text entry ++ 10 ∷ [])
trace_text (line.Dropped actor number) = codes "0 drop " ++ (decimal actor ++ (codes "." ++ (decimal number ++ 10 ∷ [])))
trace_text (line.Stop actor) = codes "0 stop " ++ (decimal actor ++ 10 ∷ [])
trace_text (line.Start actor node) = decimal actor ++ (codes " start " ++ (decimal node ++ 10 ∷ []))
trace_text (line.Notify node field to) = codes "0 notify " ++ (decimal node ++ (codes "." ++ (escaped field.now ++ (codes " " ++ (observer_text to ++ 10 ∷ [])))))
trace_text (line.KeyVisit key press node handled) = key_line key press node handled
trace_text (line.Ended actor) = ended_line actor
trace_text (line.RunEnd reason) = end_line reason
