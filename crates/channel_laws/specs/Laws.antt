-- The laws of every run, over its trace, its arrivals and its changes.
use Rattle.std.specs.Prelude.{◌≡◌, ◌⊎◌, ℕ, suc, ◌+◌, Bool, true, false, ◌&&◌, List, [], ◌∷◌, ◌++◌, map, Option, Some, None, nat_eq, if◌then◌else◌, count_by, sum_by}
use Rattle.field_observers.specs.declared.target.Registration.{Registration}
use Rattle.trace_report.specs.declared.entry.EntryName.{EntryName}
use Rattle.trace_report.specs.declared.entry.EntryName.TheVariants.{Post, Key}
use Rattle.brs_grammar.specs.Form.{Text}
use Rattle.world_meaning.specs.Core.{is_post_of, number_of}
use Rattle.channel_meaning.specs.History.{Line, Posted, Began, Ended, Stopped, Dropped, Notified, Change, Visit, Walk, History}

-- ---- automata over lines

abbrev pub and_then : {S : Type 0} → Option S → (S → Option S) → Option S
and_then None f = None
and_then (Some s) f = f s

-- where an automaton is after some lines, if it takes each of them
abbrev pub scan : {S : Type 0} → (Line → S → Option S) → List Line → S → Option S
scan f [] s = Some s
scan f (x ∷ xs) s = and_then (f x s) (scan f xs)

-- ---- the posts of one actor

-- Post 1, begin 1, end 1, post 2, and so on. A drop stands in place of a begin, and is the last.
pub data Phase : Type 0 where
  -- it has made so many posts, and all have ended
  Free : (n : ℕ) → Phase
  -- this one waits in the inbox; has begun; was dropped
  Waiting : (n : ℕ) → Phase
  Open : (n : ℕ) → Phase
  Gone : (n : ℕ) → Phase

abbrev pub when_free : ℕ → Phase → Option Phase
when_free i (Free n) = if nat_eq i (n + 1) then Some (Waiting i) else None
when_free i _ = None

abbrev pub when_waiting : ℕ → (ℕ → Phase) → Phase → Option Phase
when_waiting i next (Waiting n) = if nat_eq i n then Some (next n) else None
when_waiting i next _ = None

abbrev pub when_open : ℕ → Phase → Option Phase
when_open i (Open n) = if nat_eq i n then Some (Free n) else None
when_open i _ = None

abbrev pub talks : ℕ → Line → Phase → Option Phase
talks a (Posted b i) p = if nat_eq b a then when_free i p else Some p
talks a (Began name) p = if is_post_of a name then when_waiting (number_of name) Open p else Some p
talks a (Ended name) p = if is_post_of a name then when_open (number_of name) p else Some p
talks a (Dropped b i) p = if nat_eq b a then when_waiting i Gone p else Some p
talks a _ p = Some p

-- posts are numbered from 1, each begins at most once and after its post, or is dropped once, in the order of the posts, and at most
-- one is neither ended nor dropped
abbrev pub PostsInTurn : ℕ → List Line → Type 0
PostsInTurn a trace = (p : Phase) × (scan (talks a) trace (Free 0) ≡ Some p)

-- a drop stands directly behind the stop of its actor
abbrev pub follows_stop : Line → Option ℕ → Option (Option ℕ)
follows_stop (Stopped a) s = Some (Some a)
follows_stop (Dropped a i) (Some b) = if nat_eq b a then Some None else None
follows_stop (Dropped a i) None = None
follows_stop _ s = Some None

abbrev pub DropsFollowStops : List Line → Type 0
DropsFollowStops trace = (s : Option ℕ) × (scan follows_stop trace None ≡ Some s)

-- ---- entries

abbrev pub same_name : EntryName → EntryName → Bool
same_name (Post a i) (Post b j) = nat_eq a b && nat_eq i j
same_name (Key i) (Key j) = nat_eq i j
same_name _ _ = false

abbrev pub end_of : EntryName → Option EntryName → Option (Option EntryName)
end_of n None = None
end_of n (Some m) = if same_name n m then Some None else None

abbrev pub begin_of : EntryName → Option EntryName → Option (Option EntryName)
begin_of n None = Some (Some n)
begin_of n (Some m) = None

-- one entry at a time: a begin where no entry is open, and its end
abbrev pub takes_turns : Line → Option EntryName → Option (Option EntryName)
takes_turns (Began n) s = begin_of n s
takes_turns (Ended n) s = end_of n s
takes_turns _ s = Some s

abbrev pub begins : List Line → List EntryName
begins [] = []
begins (Began n ∷ xs) = n ∷ begins xs
begins (_ ∷ xs) = begins xs

abbrev pub dropped : List Line → List EntryName
dropped [] = []
dropped (Dropped a i ∷ xs) = Post a i ∷ dropped xs
dropped (_ ∷ xs) = dropped xs

abbrev pub among : EntryName → List EntryName → Bool
among n [] = false
among n (m ∷ ms) = if same_name n m then true else among n ms

abbrev pub without : List EntryName → List EntryName → List EntryName
without ds [] = []
without ds (n ∷ ns) = if among n ds then without ds ns else n ∷ without ds ns

-- the begun entries are the first of those that came into the inbox and were not dropped
abbrev pub EntriesInOrder : List Line → List EntryName → Type 0
EntriesInOrder trace arrivals = (rest : List EntryName) × (without (dropped trace) arrivals ≡ begins trace ++ rest)

-- ---- deliveries

-- a delivery: the node and the field of the change, and who is told
pub record Delivery : Type 0 where
  pub node : ℕ
  pub field : Text
  pub registration : Registration

abbrev pub delivery : ℕ → Text → Registration → Delivery
delivery n f r = record { node = n; field = f; registration = r }

abbrev pub notified : List Line → List Delivery
notified [] = []
notified (Notified n f r ∷ xs) = delivery n f r ∷ notified xs
notified (_ ∷ xs) = notified xs

-- the deliveries begun are the first of the registrations at the change, each once and in order, and all where its answer was given
abbrev pub IsDelivered : Change → Type 0
IsDelivered c = (rest : List Registration) × (c.begun ++ rest ≡ c.registrations) × (c.answered ≡ true → c.begun ≡ c.registrations)

abbrev pub AllDelivered : List Change → Type 0
AllDelivered [] = Unit {0}
AllDelivered (c ∷ cs) = IsDelivered c × AllDelivered cs

-- how many of the deliveries begun pass a test
abbrev pub begun_where : (Delivery → Bool) → Change → ℕ
begun_where p c = count_by (λ r. p (delivery c.node c.field r)) c.begun

abbrev pub begun_by : (Delivery → Bool) → List Change → ℕ
begun_by p cs = sum_by (begun_where p) cs

-- ---- key walks

-- visits whose handlers didn't take the key
abbrev pub AllRefused : List Visit → Type 0
AllRefused [] = Unit {0}
AllRefused (v ∷ vs) = (v.taken ≡ Some false) × AllRefused vs

abbrev pub visited_nodes : Walk → List ℕ
visited_nodes w = map (λ v. v.node) w.visits

-- the visits are the first of the handlers, in order, and none follows one whose handler took the key or hasn't answered
pub record IsWalk (w : Walk) : Type 0 where
  pub rest : List ℕ
  pub in_order : visited_nodes w ++ rest ≡ w.handlers
  pub before_last : (vs : List Visit) (v : Visit) → w.visits ≡ vs ++ v ∷ [] → AllRefused vs

-- the last visit took the key, or all handlers were visited and none took it
abbrev pub IsOver : Walk → Type 0
IsOver w = (AllRefused w.visits × (visited_nodes w ≡ w.handlers)) ⊎ ((vs : List Visit) × (v : Visit) × (w.visits ≡ vs ++ v ∷ []) × (v.taken ≡ Some true))

abbrev pub IsWalked : Option EntryName → Walk → Type 0
IsWalked open_entry w = IsWalk w × (IsOver w ⊎ (open_entry ≡ Some (Key w.number)))

-- a walk is over unless its key is the entry that has begun and hasn't ended
abbrev pub AllWalked : Option EntryName → List Walk → Type 0
AllWalked open_entry [] = Unit {0}
AllWalked open_entry (w ∷ ws) = IsWalked open_entry w × AllWalked open_entry ws

-- ---- all of them

-- Between a begin and its end no other entry begins, and only the last begun entry may have no end. The walk of each key that has ended is
-- over.
pub record OneAtATime (trace : List Line) (walks : List Walk) : Type 0 where
  -- the entry that has begun and hasn't ended
  pub open_entry : Option EntryName
  pub turns : scan takes_turns trace None ≡ Some open_entry
  pub walked : AllWalked open_entry walks

pub record Laws (h : History) : Type 0 where
  pub posts : (b : ℕ) → PostsInTurn (suc b) h.trace
  pub drops : DropsFollowStops h.trace
  pub entries : EntriesInOrder h.trace h.arrivals
  pub one : OneAtATime h.trace h.walks
  pub deliveries : AllDelivered (h.answered ++ h.unanswered)
  -- each notify line is one delivery of one change: whatever is asked of deliveries, as many lines pass as deliveries begun
  pub lines : (p : Delivery → Bool) → count_by p (notified h.trace) ≡ begun_by p h.answered + begun_by p h.unanswered
