-- An actor at work: its calls in progress, held at the redex.
use Rattle.std.specs.Prelude.{ℕ, List, ◌∷◌, Option}
use Rattle.brs_tokens.specs.declared.place.Place.{Place}
use Rattle.chan_values.specs.declared.error_code.ErrorCode.{ErrorCode}
use Rattle.brs_grammar.specs.declared.tree.TypeWord.{TypeWord}
use Rattle.brs_grammar.specs.declared.tree.UpdateSign.{UpdateSign}
use Rattle.brs_grammar.specs.Form.{Text, Aim, Head, Form, Forms, Doing, Todo, finish, first}
use Rattle.heap_meaning.specs.Values.{StoreValue}
use Rattle.brs_meaning.specs.Program.{Function}
use Rattle.brs_meaning.specs.Locals.{Locals}

-- who gets what a call returns: the call that it was made in, or the world where it was put on top
pub data Kind : Type 0 where
  Inner : Kind
  OnTop : Kind

-- a call in progress: its function, its home, its `m` and its locals
pub record Call : Type 0 where
  pub kind : Kind
  pub function : Function
  pub home : ℕ
  pub m : StoreValue
  pub locals : Locals

-- what a statement of a running call does with the values of its operands
pub data Job : Type 0 where
  -- a statement of the source
  Does : Doing → Job
  -- what was read at the target and the other side are the last two operands, those of the target come before them
  Combines : Aim → UpdateSign → Place → Job
  -- the condition of a `while` was placed, and is the operand; a turn of a `while` is over
  Tests : Form → Todo → Job
  Again : Form → Todo → Job
  -- the variable of a `for` is to be compared with its end; is to be increased by its step
  Compares : Text → (end step : StoreValue) → Todo → Job
  Increases : Text → (end step : StoreValue) → Todo → Job
  -- a `for each` goes on with the item at this place, with the first of these keys
  NextItem : Text → (array : StoreValue) → (next : ℕ) → Todo → Job
  NextKey : Text → (keys : List Text) → Todo → Job
  -- a parameter without argument takes its default, which is the operand
  Binds : Text → Option TypeWord → Job

-- a statement that is still to be done
pub record Task : Type 0 where
  pub job : Job
  pub place : Place
  pub operands : Forms

-- a block in front of what is still to be done
abbrev pub before : Todo → List Task → List Task
before finish tasks = tasks
before (first doing place operands rest) tasks = record { job = Does doing; place = place; operands = operands } ∷ before rest tasks

-- an expression of which one operand is at work: the values before it, the last first, and the forms after it
pub data Around : Type 0 where
  around : Head → Place → (done : List StoreValue) → (after : Forms) → Around

-- the same of a statement
pub data Under : Type 0 where
  under : Job → Place → (done : List StoreValue) → (after : Forms) → Under

-- the redex of a call: an expression whose operands are values, of which the last stands first; an operator that its left side decides;
-- a statement whose operands are values; the end of the body; an error
pub data Spot : Type 0 where
  AtHead : Head → Place → List StoreValue → List Around → Under → Spot
  AtDecided : Head → Place → StoreValue → Form → Forms → List Around → Under → Spot
  AtJob : Job → Place → List StoreValue → Spot
  AtEnd : Spot
  -- an error that was handed back is raised where it was asked for
  AtFailure : ErrorCode → Place → Spot

-- where a value that is waited for will stand: as an operand; nowhere, since it ends the statement
pub data Hole : Type 0 where
  Operand : List Around → Under → Hole
  Ends : Hole

-- a call that waits for a value, with the place of the form that asked
pub record Held : Type 0 where
  pub call : Call
  pub place : Place
  pub hole : Hole
  pub tasks : List Task

-- the calls in progress, the innermost first: at work; or with an open want in the first of them; without calls the actor is idle
pub data Tree : Type 0 where
  Works : Call → Spot → List Task → List Held → Tree
  Waits : List Held → Tree
