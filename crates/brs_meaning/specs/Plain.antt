-- The calls of an actor as a syntax tree in which parts are values, and its step: the leftmost innermost part whose operands are all
-- values is replaced.
use Rattle.std.specs.Prelude.{ℕ, zero, suc, List, [], ◌∷◌, reverse, Option, Some, None, cond}
use Rattle.brs_tokens.specs.declared.place.Place as t
use Rattle.chan_values.specs.declared.place.Place as c
use Rattle.chan_values.specs.declared.error_code.ErrorCode.{ErrorCode}
use Rattle.chan_values.specs.Tree as v
use Rattle.heap_meaning.specs.declared.plain.Plain.TheVariants.{Invalid}
use Rattle.heap_meaning.specs.Values.{StoreValue, Scalar}
use Rattle.heap_meaning.specs.Store.{Store}
use Rattle.brs_grammar.specs.Form.{Head, Form, Node, Forms, none, more}
use Rattle.brs_meaning.specs.Program.{Program, Function, place_in}
use Rattle.brs_meaning.specs.Locals.{Home}
use Rattle.brs_meaning.specs.Given as g
use Rattle.brs_meaning.specs.Given.{Given, Setting}
use Rattle.brs_meaning.specs.Did as d
use Rattle.brs_meaning.specs.Did.{Did}
use Rattle.brs_meaning.specs.Running.{Kind, Inner, OnTop, Call, Job, Task, Around, around, Under, under, Hole, Operand, Ends}
use Rattle.brs_meaning.specs.Moving.{decides}
use Rattle.brs_meaning.specs.Binding.{Begun, Begins, Refuses, begun}
use Rattle.brs_meaning.specs.Heads.{contract}
use Rattle.brs_meaning.specs.Statements.{act}
use Rattle.brs_meaning.specs.Leaving.{leaving}
use Rattle.brs_meaning.specs.Reduction.{Outcome, Went, Asked, Printed, Returned, TooBig, with_locals, home_of, setting_of, own_or}

mutual
  pub data Part : Type 0 where
    Value : StoreValue → Part
    Makes : Head → t.Place → Parts → Part
    -- a call in progress: the statement at work, and those after it
    Runs : Call → Statement → List Task → Part
    -- an answer that is still to come
    Open : Part

  pub data Parts : Type 0 where
    nothing : Parts
    also : Part → Parts → Parts

  pub data Statement : Type 0 where
    Does : Job → t.Place → Parts → Statement
    -- the answer ends the statement
    Awaits : Part → Statement
    Fails : ErrorCode → t.Place → Statement
    Finished : Statement

-- the source form as a tree without a value
abbrev mutual
  pub part_of : Form → Part
  part_of (Node head at fs) = Makes head at (parts_of fs)

  pub parts_of : Forms → Parts
  parts_of none = nothing
  parts_of (more f fs) = also (part_of f) (parts_of fs)

-- what a step makes of a part
pub data Moved (A : Type 0) : Type 0 where
  Moves : Outcome → A → Store → Moved A
  -- an error ends all calls
  Breaks : ErrorCode → c.Place → Store → Moved A
  -- no step, before the answer is there
  Rests : Moved A

abbrev pub within : {A B : Type 0} → (A → B) → Moved A → Moved B
within f (Moves outcome a store) = Moves outcome (f a) store
within f (Breaks e at store) = Breaks e at store
within f Rests = Rests

-- a part is a value, or it has a step
pub data Look : Type 0 where
  IsValue : StoreValue → Look
  Steps : Moved Part → Look

pub data LookAll : Type 0 where
  AllValues : List StoreValue → LookAll
  StepsIn : Moved Parts → LookAll

pub data LookStatement : Type 0 where
  Ready : Job → t.Place → List StoreValue → LookStatement
  StepsStatement : Moved Statement → LookStatement
  Failing : ErrorCode → t.Place → LookStatement
  AtEnd : LookStatement

abbrev pub start : Call → List Task → Part
start call [] = Runs call Finished []
start call (k ∷ tasks) = Runs call (Does k.job k.place (parts_of k.operands)) tasks

-- these values, of which the last stands first, and then those parts
abbrev pub onto : List StoreValue → Parts → Parts
onto [] parts = parts
onto (v ∷ vs) parts = onto vs (also (Value v) parts)

abbrev pub plug_under : Part → Under → Statement
plug_under p (under job at done after) = Does job at (onto done (also p (parts_of after)))

-- a part in the place where an operand is at work
abbrev pub plug : Part → List Around → Under → Statement
plug p [] base = plug_under p base
plug p (around head at done after ∷ context) base = plug (Makes head at (onto done (also p (parts_of after)))) context base

abbrev pub plug_hole : Part → Hole → Statement
plug_hole p (Operand context base) = plug p context base
plug_hole p Ends = Awaits p

-- ---- what redexes become

abbrev pub out : Option v.Tree → c.Place → Store → Moved Part
out (Some t) at store = Moves (Returned t) Open store
out None at store = Moves (TooBig at) Open store

-- the call becomes the value, or the answer to what it was put on is open again
abbrev pub gone : Kind → StoreValue → c.Place → Store → Moved Part
gone Inner v at store = Moves Went (Value v) store
gone OnTop v at store = out (leaving store v) at store

abbrev pub entered : Begun → Function → t.Place → Store → Moved Part
entered (Begins inner tasks) f at store = Moves Went (start inner tasks) store
entered (Refuses e) f at store = Breaks e (place_in f at) store

-- with the number of calls in progress
abbrev pub given : Given → List Home → Call → (calls : ℕ) → t.Place → Store → Moved Part
given (g.Gives v store) homes call calls at old = Moves Went (Value v) store
given (g.Calls f m arguments) homes call calls at old = entered (begun Inner f call.home (own_or m (home_of homes call.home).m) arguments calls) call.function at old
given (g.Wants request) homes call calls at old = Moves (Asked request) Open old
given (g.Fails e) homes call calls at old = Breaks e (place_in call.function at) old

abbrev pub did : Did → Call → t.Place → List Task → Store → Moved Part
did (d.Goes locals store tasks) call at todo old = Moves Went (start (with_locals call locals) tasks) store
did (d.Continues v base store) call at todo old = Moves Went (Runs call (plug_under (Value v) base) todo) store
did (d.Awaits request hole) call at todo old = Moves (Asked request) (Runs call (plug_hole Open hole) todo) old
did (d.Prints text) call at todo old = Moves (Printed text) (start call todo) old
did (d.Returns v) call at todo old = gone call.kind v (place_in call.function at) old
did (d.Breaks e there) call at todo old = Breaks e (place_in call.function there) old

-- ---- the leftmost innermost redex, and its step

-- the left side decides the operator before the right side is looked at
abbrev pub decided : Head → Parts → Option StoreValue
decided head (also (Value v) (also p ps)) = cond (decides head v) (Some v) None
decided head _ = None

abbrev pub after_value : StoreValue → LookAll → LookAll
after_value v (AllValues vs) = AllValues (v ∷ vs)
after_value v (StepsIn m) = StepsIn (within (also (Value v)) m)

abbrev pub in_order : Look → Parts → LookAll → LookAll
in_order (IsValue v) rest all = after_value v all
in_order (Steps m) rest all = StepsIn (within (λ p. also p rest) m)

abbrev pub node : Program → (actor : ℕ) → List Home → Call → (calls : ℕ) → Store → Head → t.Place → Option StoreValue → LookAll → Look
node p actor homes call calls store head at (Some v) all = Steps (Moves Went (Value v) store)
node p actor homes call calls store head at None (AllValues vs) = Steps (given (contract (setting_of p actor homes call) head at (reverse vs) store) homes call calls at store)
node p actor homes call calls store head at None (StepsIn m) = Steps (within (Makes head at) m)

abbrev pub statement : Job → t.Place → LookAll → LookStatement
statement job at (AllValues vs) = Ready job at vs
statement job at (StepsIn m) = StepsStatement (within (Does job at) m)

abbrev pub awaiting : Look → LookStatement
awaiting (IsValue v) = StepsStatement Rests
awaiting (Steps m) = StepsStatement (within Awaits m)

abbrev pub call_step : Program → (actor : ℕ) → List Home → Call → List Task → Store → LookStatement → Moved Part
call_step p actor homes call tasks store (Ready job at vs) = did (act (setting_of p actor homes call) job at (reverse vs) store tasks) call at tasks store
call_step p actor homes call tasks store (StepsStatement m) = within (λ s. Runs call s tasks) m
call_step p actor homes call tasks store (Failing e at) = Breaks e (place_in call.function at) store
call_step p actor homes call tasks store AtEnd = gone call.kind (Scalar Invalid) (place_in call.function call.function.heading) store

-- in a call with so many calls round it, its own one among them
abbrev mutual
  pub look : Program → (actor : ℕ) → List Home → Call → (calls : ℕ) → Store → Part → Look
  look p actor homes call calls store (Value v) = IsValue v
  look p actor homes call calls store (Makes head at ps) = node p actor homes call calls store head at (decided head ps) (look_all p actor homes call calls store ps)
  look p actor homes call calls store (Runs inner s tasks) = Steps (call_step p actor homes inner tasks store (look_statement p actor homes inner (suc calls) store s))
  look p actor homes call calls store Open = Steps Rests

  pub look_all : Program → (actor : ℕ) → List Home → Call → (calls : ℕ) → Store → Parts → LookAll
  look_all p actor homes call calls store nothing = AllValues []
  look_all p actor homes call calls store (also q qs) = in_order (look p actor homes call calls store q) qs (look_all p actor homes call calls store qs)

  pub look_statement : Program → (actor : ℕ) → List Home → Call → (calls : ℕ) → Store → Statement → LookStatement
  look_statement p actor homes call calls store (Does job at ps) = statement job at (look_all p actor homes call calls store ps)
  look_statement p actor homes call calls store (Awaits q) = awaiting (look p actor homes call calls store q)
  look_statement p actor homes call calls store (Fails e at) = Failing e at
  look_statement p actor homes call calls store Finished = AtEnd

-- the step of the calls of an actor: the outermost part stands in no call
abbrev pub moved_part : Look → Moved Part
moved_part (IsValue v) = Rests
moved_part (Steps m) = m

abbrev pub step : Program → (actor : ℕ) → List Home → Part → Store → Moved Part
step p actor homes (Runs call s tasks) store = call_step p actor homes call tasks store (look_statement p actor homes call (suc zero) store s)
step p actor homes part store = Rests
