-- One step of an actor that is at work.
use Rattle.std.specs.Prelude.{ℕ, suc, List, [], ◌∷◌, length, Option, Some, None, slice_get}
use Rattle.brs_tokens.specs.declared.place.Place as t
use Rattle.chan_values.specs.declared.place.Place as c
use Rattle.chan_values.specs.declared.error_code.ErrorCode.{ErrorCode}
use Rattle.chan_values.specs.Tree as v
use Rattle.heap_meaning.specs.declared.plain.Plain.TheVariants.{Invalid}
use Rattle.heap_meaning.specs.Values.{StoreValue, Scalar}
use Rattle.heap_meaning.specs.Store.{Store}
use Rattle.brs_grammar.specs.Form.{Text}
use Rattle.brs_meaning.specs.Program.{Program, Function, place_in}
use Rattle.brs_meaning.specs.Locals.{Locals, Home}
use Rattle.brs_meaning.specs.Request.{Request}
use Rattle.brs_meaning.specs.Given.{Given, Gives, Calls, Wants, Fails, Setting}
use Rattle.brs_meaning.specs.Did.{Did, Goes, Continues, Awaits, Prints, Returns, Breaks}
use Rattle.brs_meaning.specs.Running.{Kind, Inner, Call, Task, Around, Under, Spot, AtHead, AtDecided, AtJob, AtEnd, AtFailure, Hole, Operand, Held, Tree, Works, Waits}
use Rattle.brs_meaning.specs.Moving.{give_under, give, next, filled}
use Rattle.brs_meaning.specs.Binding.{Begun, Begins, Refuses, begun}
use Rattle.brs_meaning.specs.Heads.{contract}
use Rattle.brs_meaning.specs.Statements.{act}
use Rattle.brs_meaning.specs.Leaving.{leaving}

-- what a step shows to the world
pub data Outcome : Type 0 where
  Went : Outcome
  Asked : Request → Outcome
  Printed : Text → Outcome
  Raised : ErrorCode → c.Place → Outcome
  -- a call that was put on top returned this value, or one that can't be unfolded
  Returned : v.Tree → Outcome
  TooBig : c.Place → Outcome

-- the outcome, and the calls and the store after the step
pub record Reduced : Type 0 where
  pub outcome : Outcome
  pub tree : Tree
  pub store : Store

abbrev pub reduced : Outcome → Tree → Store → Reduced
reduced outcome tree store = record { outcome = outcome; tree = tree; store = store }

-- an error ends all calls of the actor
abbrev pub raised : ErrorCode → Function → t.Place → Store → Reduced
raised e f at store = reduced (Raised e (place_in f at)) (Waits []) store

-- a value that leaves the actor
abbrev pub left : Option v.Tree → c.Place → List Held → Store → Reduced
left (Some t) at below store = reduced (Returned t) (Waits below) store
left None at below store = reduced (TooBig at) (Waits below) store

-- a call returns a value, to the call below it or to the world
abbrev pub leave : Kind → StoreValue → c.Place → List Held → Store → Reduced
leave Inner v at (h ∷ below) store = reduced Went (filled v h.call h.hole h.tasks below) store
leave kind v at below store = left (leaving store v) at below store

abbrev pub with_locals : Call → Locals → Call
with_locals call locals = record call { locals = locals }

-- each call has a home of its actor
abbrev pub or_none : Option Home → Home
or_none (Some home) = home
or_none None = record { scope = 0; m = Scalar Invalid }

abbrev pub home_of : List Home → ℕ → Home
home_of homes n = or_none (slice_get homes n)

abbrev pub setting_of : Program → (actor : ℕ) → List Home → Call → Setting
setting_of p actor homes call =
    record { program = p; actor = actor; function = call.function; scope = (home_of homes call.home).scope; m = call.m; locals = call.locals }

-- a call begins above the call that it was made in
abbrev pub entered : Begun → Call → t.Place → Hole → List Task → List Held → Store → Reduced
entered (Begins inner todo) call at hole tasks below store = reduced Went (next inner todo (record { call = call; place = at; hole = hole; tasks = tasks } ∷ below)) store
entered (Refuses e) call at hole tasks below store = raised e call.function at store

abbrev pub own_or : Option StoreValue → StoreValue → StoreValue
own_or (Some m) home = m
own_or None home = home

abbrev pub after_given : Given → List Home → Call → t.Place → List Around → Under → List Task → List Held → Store → Reduced
after_given (Gives v store) homes call at context base tasks below old = reduced Went (Works call (give v context base) tasks below) store
after_given (Calls f m arguments) homes call at context base tasks below old =
    entered (begun Inner f call.home (own_or m (home_of homes call.home).m) arguments (suc (length below))) call at (Operand context base) tasks below old
after_given (Wants request) homes call at context base tasks below old =
    reduced (Asked request) (Waits (record { call = call; place = at; hole = Operand context base; tasks = tasks } ∷ below)) old
after_given (Fails e) homes call at context base tasks below old = raised e call.function at old

abbrev pub after_did : Did → Call → t.Place → List Task → List Held → Store → Reduced
after_did (Goes locals store tasks) call at todo below old = reduced Went (next (with_locals call locals) tasks below) store
after_did (Continues v base store) call at todo below old = reduced Went (Works call (give_under v base) todo below) store
after_did (Awaits request hole) call at todo below old = reduced (Asked request) (Waits (record { call = call; place = at; hole = hole; tasks = todo } ∷ below)) old
after_did (Prints text) call at todo below old = reduced (Printed text) (next call todo below) old
after_did (Returns v) call at todo below old = leave call.kind v (place_in call.function at) below old
after_did (Breaks e there) call at todo below old = raised e call.function there old

-- the step at a redex
abbrev pub at_spot : Program → (actor : ℕ) → List Home → Call → Spot → List Task → List Held → Store → Reduced
at_spot p actor homes call (AtHead head at vs context base) tasks below store =
    after_given (contract (setting_of p actor homes call) head at vs store) homes call at context base tasks below store
at_spot p actor homes call (AtDecided head at v f fs context base) tasks below store = reduced Went (Works call (give v context base) tasks below) store
at_spot p actor homes call (AtJob job at vs) tasks below store = after_did (act (setting_of p actor homes call) job at vs store tasks) call at tasks below store
at_spot p actor homes call AtEnd tasks below store = leave call.kind (Scalar Invalid) (place_in call.function call.function.heading) below store
at_spot p actor homes call (AtFailure e at) tasks below store = raised e call.function at store

-- the step of an actor that is at work; an actor that waits or is idle has none
abbrev pub reduce : Program → (actor : ℕ) → List Home → Tree → Store → Reduced
reduce p actor homes (Works call spot tasks below) store = at_spot p actor homes call spot tasks below store
reduce p actor homes (Waits below) store = reduced Went (Waits below) store
