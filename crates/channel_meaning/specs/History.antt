-- The histories of a run, read off the labels of its steps: the trace, the list of arrivals, the changes and the key walks.
use Rattle.std.specs.Prelude.{ℕ, Bool, true, false, List, [], ◌∷◌, ◌++◌, map, Option, Some, None}
use Rattle.chan_values.specs.declared.error_code.ErrorCode.{ErrorCode}
use Rattle.chan_values.specs.declared.key.Key.{Key}
use Rattle.chan_values.specs.declared.place.Place.{Place}
use Rattle.chan_values.specs.Tree.{Tree}
use Rattle.field_observers.specs.declared.target.Registration.{Registration}
use Rattle.trace_report.specs.declared.entry.EntryName.{EntryName}
use Rattle.trace_report.specs.declared.entry.EntryName.TheVariants as entry
use Rattle.brs_grammar.specs.Form.{Text}
use Rattle.world_meaning.specs.Labels.{Label, Prints, Fails, Returns, Comes, Posts, Begins, Ends, Starts, Stops, Drops, Changes, Delivers, Answers, Walks, Visits, Takes}

-- ---- the trace

pub data Line : Type 0 where
  Printed : (actor : ℕ) → Text → Line
  Failed : (actor : ℕ) → ErrorCode → Place → Line
  Returned : (actor : ℕ) → Line
  Posted : (actor number : ℕ) → Line
  Began : EntryName → Line
  Ended : EntryName → Line
  Started : (actor node : ℕ) → Line
  Stopped : (actor : ℕ) → Line
  Dropped : (actor number : ℕ) → Line
  Notified : (node : ℕ) → (field : Text) → Registration → Line
  Visited : Key → (press : Bool) → (node : ℕ) → (taken : Bool) → Line

-- ---- changes

-- a counted change: its node, field and value, the registrations of that field then, those of them to which a delivery was begun, in
-- the order of the begins, and whether its answer was given
pub record Change : Type 0 where
  pub node : ℕ
  pub field : Text
  pub value : Tree
  pub registrations : List Registration
  pub begun : List Registration
  pub answered : Bool

-- ---- key walks

-- a visit: its node, and whether the node's handler took the key, once it has answered
pub record Visit : Type 0 where
  pub node : ℕ
  pub taken : Option Bool

-- the walk of a key that has begun: its number, its handlers, and the visits, in order
pub record Walk : Type 0 where
  pub number : ℕ
  pub handlers : List ℕ
  pub visits : List Visit

-- ---- all of them

pub record History : Type 0 where
  pub trace : List Line
  -- the names of the entries, in the order in which they came into the inbox
  pub arrivals : List EntryName
  -- the changes whose answers were given; the others, the newest first
  pub answered : List Change
  pub unanswered : List Change
  -- the walks, the newest first
  pub walks : List Walk

abbrev pub said : Line → History → History
said line h = record h { trace = h.trace ++ line ∷ [] }

abbrev pub arrived : EntryName → History → History
arrived name h = record h { arrivals = h.arrivals ++ name ∷ [] }

-- a delivery of the newest change that isn't answered
abbrev pub delivered : Registration → List Change → List Change
delivered r [] = []
delivered r (change ∷ changes) = record change { begun = change.begun ++ r ∷ [] } ∷ changes

abbrev pub with_answer : Change → Change
with_answer change = record change { answered = true }

-- the newest change that isn't answered gets its answer
abbrev pub answer_newest : List Change → History → History
answer_newest [] h = h
answer_newest (change ∷ changes) h = record h { answered = h.answered ++ with_answer change ∷ []; unanswered = changes }

-- a change that a task's last entry made counts as answered once that entry has ended
abbrev pub answer_all : History → History
answer_all h = record h { answered = h.answered ++ map with_answer h.unanswered; unanswered = [] }

abbrev pub change_newest : (Walk → Walk) → List Walk → List Walk
change_newest f [] = []
change_newest f (walk ∷ walks) = f walk ∷ walks

abbrev pub with_visit : ℕ → Walk → Walk
with_visit n walk = record walk { visits = walk.visits ++ record { node = n; taken = None } ∷ [] }

abbrev pub change_last : (Visit → Visit) → List Visit → List Visit
change_last f [] = []
change_last f (v ∷ []) = f v ∷ []
change_last f (v ∷ w ∷ vs) = v ∷ change_last f (w ∷ vs)

abbrev pub with_taken : Bool → Walk → Walk
with_taken taken walk = record walk { visits = change_last (λ v. record v { taken = Some taken }) walk.visits }

-- what one label adds
abbrev pub recorded : Label → History → History
recorded (Prints a text) h = said (Printed a text) h
recorded (Fails a e at) h = said (Failed a e at) h
recorded (Returns a) h = said (Returned a) h
recorded (Comes i) h = arrived (entry.Key i) h
recorded (Posts a i) h = said (Posted a i) (arrived (entry.Post a i) h)
recorded (Begins name) h = said (Began name) h
recorded (Ends name) h = said (Ended name) (answer_all h)
recorded (Starts a n) h = said (Started a n) h
recorded (Stops a) h = said (Stopped a) h
recorded (Drops a i) h = said (Dropped a i) h
recorded (Changes n f v rs) h = record h { unanswered = record { node = n; field = f; value = v; registrations = rs; begun = []; answered = false } ∷ h.unanswered }
recorded (Delivers n f r) h = said (Notified n f r) (record h { unanswered = delivered r h.unanswered })
recorded Answers h = answer_newest h.unanswered h
recorded (Walks i handlers) h = record h { walks = record { number = i; handlers = handlers; visits = [] } ∷ h.walks }
recorded (Visits n) h = record h { walks = change_newest (with_visit n) h.walks }
recorded (Takes key press n taken) h = said (Visited key press n taken) (record h { walks = change_newest (with_taken taken) h.walks })

abbrev pub record_all : List Label → History → History
record_all [] h = h
record_all (label ∷ labels) h = record_all labels (recorded label h)

abbrev pub no_history : History
no_history = record { trace = []; arrivals = []; answered = []; unanswered = []; walks = [] }
