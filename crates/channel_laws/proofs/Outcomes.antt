-- A step that asks for something leaves the actor waiting.
use Rattle.std.proofs.Common.{◌≡◌, ℕ, false, List, [], ◌∷◌, Option, Some, None, refl}
use Rattle.brs_tokens.specs.declared.place.Place as t
use Rattle.chan_values.specs.declared.place.Place as c
use Rattle.chan_values.specs.Tree as v
use Rattle.std.specs.Prelude.{suc, length}
use Rattle.heap_meaning.specs.declared.plain.Plain.TheVariants.{Invalid}
use Rattle.heap_meaning.specs.Values.{StoreValue, Scalar}
use Rattle.heap_meaning.specs.Store.{Store}
use Rattle.brs_meaning.specs.Program.{Program, place_in}
use Rattle.brs_meaning.specs.Locals.{Home}
use Rattle.brs_meaning.specs.Given as g
use Rattle.brs_meaning.specs.Given.{Given}
use Rattle.brs_meaning.specs.Did as d
use Rattle.brs_meaning.specs.Did.{Did}
use Rattle.brs_meaning.specs.Running.{Kind, Inner, OnTop, Call, Task, Around, Under, Spot, AtHead, AtDecided, AtJob, AtEnd, AtFailure, Hole, Operand, Held, Tree, Works, Waits}
use Rattle.brs_meaning.specs.Binding.{Begun, Begins, Refuses, begun}
use Rattle.brs_meaning.specs.Heads.{contract}
use Rattle.brs_meaning.specs.Statements.{act}
use Rattle.brs_meaning.specs.Leaving.{leaving}
use Rattle.brs_meaning.specs.Reduction as r
use Rattle.brs_meaning.specs.Reduction.{Outcome, Went, Asked, Printed, Raised, Returned, TooBig, reduce}
use Rattle.brs_meaning.specs.Answering.{is_at_work}

abbrev pub IfAsked : Outcome → Tree → Type 0
IfAsked (Asked request) tree = is_at_work tree ≡ false
IfAsked Went tree = Unit {0}
IfAsked (Printed text) tree = Unit {0}
IfAsked (Raised e at) tree = Unit {0}
IfAsked (Returned v) tree = Unit {0}
IfAsked (TooBig at) tree = Unit {0}

left_waits : (o : Option v.Tree) (at : c.Place) (below : List Held) (store : Store) → IfAsked (r.left o at below store).outcome (r.left o at below store).tree
left_waits None at below store = tt
left_waits (Some t) at below store = tt

leave_waits : (kind : Kind) (v : StoreValue) (at : c.Place) (below : List Held) (store : Store) → IfAsked (r.leave kind v at below store).outcome (r.leave kind v at below store).tree
leave_waits Inner v at (h ∷ below) store = tt
leave_waits Inner v at [] store = left_waits (leaving store v) at [] store
leave_waits OnTop v at below store = left_waits (leaving store v) at below store

entered_waits : (b : Begun) (call : Call) (at : t.Place) (hole : Hole) (tasks : List Task) (below : List Held) (store : Store) → IfAsked (r.entered b call at hole tasks below store).outcome (r.entered b call at hole tasks below store).tree
entered_waits (Begins inner todo) call at hole tasks below store = tt
entered_waits (Refuses e) call at hole tasks below store = tt

given_waits : (x : Given) (homes : List Home) (call : Call) (at : t.Place) (context : List Around) (base : Under) (tasks : List Task) (below : List Held) (old : Store) → IfAsked (r.after_given x homes call at context base tasks below old).outcome (r.after_given x homes call at context base tasks below old).tree
given_waits (g.Gives v store) homes call at context base tasks below old = tt
given_waits (g.Calls f m arguments) homes call at context base tasks below old = entered_waits (begun Inner f call.home (r.own_or m (r.home_of homes call.home).m) arguments (suc (length below))) call at (Operand context base) tasks below old
given_waits (g.Wants request) homes call at context base tasks below old = refl
given_waits (g.Fails e) homes call at context base tasks below old = tt

did_waits : (x : Did) (call : Call) (at : t.Place) (todo : List Task) (below : List Held) (old : Store) → IfAsked (r.after_did x call at todo below old).outcome (r.after_did x call at todo below old).tree
did_waits (d.Goes locals store tasks) call at todo below old = tt
did_waits (d.Continues v base store) call at todo below old = tt
did_waits (d.Awaits request hole) call at todo below old = refl
did_waits (d.Prints text) call at todo below old = tt
did_waits (d.Returns v) call at todo below old = leave_waits call.kind v (place_in call.function at) below old
did_waits (d.Breaks e there) call at todo below old = tt

spot_waits : (p : Program) (actor : ℕ) (homes : List Home) (call : Call) (spot : Spot) (tasks : List Task) (below : List Held) (store : Store) → IfAsked (r.at_spot p actor homes call spot tasks below store).outcome (r.at_spot p actor homes call spot tasks below store).tree
spot_waits p actor homes call (AtHead head at vs context base) tasks below store = given_waits (contract (r.setting_of p actor homes call) head at vs store) homes call at context base tasks below store
spot_waits p actor homes call (AtDecided head at v f fs context base) tasks below store = tt
spot_waits p actor homes call (AtJob job at vs) tasks below store = did_waits (act (r.setting_of p actor homes call) job at vs store tasks) call at tasks below store
spot_waits p actor homes call AtEnd tasks below store = leave_waits call.kind (Scalar Invalid) (place_in call.function call.function.heading) below store
spot_waits p actor homes call (AtFailure e at) tasks below store = tt

pub asking_waits : (p : Program) (actor : ℕ) (homes : List Home) (tree : Tree) (store : Store) → IfAsked (reduce p actor homes tree store).outcome (reduce p actor homes tree store).tree
asking_waits p actor homes (Works call spot tasks below) store = spot_waits p actor homes call spot tasks below store
asking_waits p actor homes (Waits below) store = tt
