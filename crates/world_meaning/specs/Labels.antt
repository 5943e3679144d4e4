-- What happens in a step, as a list of labels. Trace, arrivals, changes and key walks of a run are read off them.
use Rattle.std.specs.Prelude.{ℕ, Bool, List}
use Rattle.chan_values.specs.declared.error_code.ErrorCode.{ErrorCode}
use Rattle.chan_values.specs.declared.key.Key.{Key}
use Rattle.chan_values.specs.declared.place.Place.{Place}
use Rattle.chan_values.specs.Tree.{Tree}
use Rattle.field_observers.specs.declared.target.Registration.{Registration}
use Rattle.trace_report.specs.declared.entry.EntryName.{EntryName}
use Rattle.brs_grammar.specs.Form.{Text}

pub data Label : Type 0 where
  -- an actor prints; an error comes in an actor; the function of actor 1 or of a task returns
  Prints : (actor : ℕ) → Text → Label
  Fails : (actor : ℕ) → ErrorCode → Place → Label
  Returns : (actor : ℕ) → Label
  -- a key comes into the inbox; an actor posts
  Comes : (number : ℕ) → Label
  Posts : (actor number : ℕ) → Label
  -- an entry begins, and ends
  Begins : EntryName → Label
  Ends : EntryName → Label
  -- a task starts, with its node; a task is stopped, and its entry is dropped
  Starts : (actor node : ℕ) → Label
  Stops : (actor : ℕ) → Label
  Drops : (actor number : ℕ) → Label
  -- a counted change of a field, with its registrations; a delivery of the newest change that isn't answered begins; that change is answered
  Changes : (node : ℕ) → (field : Text) → (value : Tree) → List Registration → Label
  Delivers : (node : ℕ) → (field : Text) → Registration → Label
  Answers : Label
  -- a key's walk begins, with its handlers; it visits a node; the handler of that node answers
  Walks : (number : ℕ) → (handlers : List ℕ) → Label
  Visits : (node : ℕ) → Label
  Takes : Key → (press : Bool) → (node : ℕ) → (taken : Bool) → Label
