-- What the world does to an actor: it answers an open want, and puts calls on top.
use Rattle.std.specs.Prelude.{ℕ, Bool, true, false, List, [], ◌∷◌, ◌++◌, length, Option, Some, None}
use Rattle.chan_values.specs.declared.error_code.ErrorCode.{ErrorCode}
use Rattle.chan_values.specs.declared.message.Message.{Message}
use Rattle.chan_values.specs.declared.place.Place as c
use Rattle.chan_values.specs.Tree as v
use Rattle.chan_values.specs.Tree.{trees}
use Rattle.copy_meaning.specs.Laying.{with_tree, value_of_tree, all_laid, all_objects}
use Rattle.heap_meaning.specs.Values.{StoreValue, Reference}
use Rattle.heap_meaning.specs.Store.{MapObject, MessageObject, Store}
use Rattle.brs_grammar.specs.Form.{Params, unnamed}
use Rattle.brs_meaning.specs.Program.{Program, Function, place_in}
use Rattle.brs_meaning.specs.Locals.{Home}
use Rattle.brs_meaning.specs.Request.{Wait}
use Rattle.brs_meaning.specs.Given.{Given, Wants}
use Rattle.brs_meaning.specs.Running.{OnTop, AtHead, AtFailure, Held, Tree, Works, Waits}
use Rattle.brs_meaning.specs.Moving.{next, filled}
use Rattle.brs_meaning.specs.Binding.{Begun, Begins, Refuses, begun}
use Rattle.brs_meaning.specs.Heads.{contract}
use Rattle.brs_meaning.specs.Reduction.{home_of, setting_of}

-- the calls and the store of an actor
pub record State : Type 0 where
  pub tree : Tree
  pub store : Store

abbrev pub state : Tree → Store → State
state tree store = record { tree = tree; store = store }

-- the answer to a want: a value, a message, or an error that is handed back
pub data Reply : Type 0 where
  Value : v.Tree → Reply
  Told : Message → Reply
  Failed : ErrorCode → Reply

-- a value in the place of the innermost call's want
abbrev pub received : StoreValue → Tree → Tree
received v (Waits (h ∷ below)) = filled v h.call h.hole h.tasks below
received v tree = tree

-- an error that the innermost call raises in its next step
abbrev pub failing : ErrorCode → Tree → Tree
failing e (Waits (h ∷ below)) = Works h.call (AtFailure e h.place) h.tasks below
failing e tree = tree

-- a value is laid down anew, and a message is a new object
abbrev pub replied : Reply → Tree → Store → State
replied (Value t) tree store = state (received (value_of_tree store t) tree) (with_tree store t)
replied (Told message) tree store = state (received (Reference (length store)) tree) (store ++ MessageObject message ∷ [])
replied (Failed e) tree store = state (failing e tree) store

-- what a call that is put on top gets: values; a message, where it has a parameter; a new empty associative array, where it has one
pub data Arguments : Type 0 where
  Values : List v.Tree → Arguments
  Message' : Message → Arguments
  Start : Arguments

-- values of the store, and the store with them
pub record Brought : Type 0 where
  pub values : List StoreValue
  pub store : Store

abbrev pub brought : List StoreValue → Store → Brought
brought values store = record { values = values; store = store }

abbrev pub where_taken : Params → Brought → Store → Brought
where_taken unnamed one store = brought [] store
where_taken _ one store = one

abbrev pub bring : Arguments → Params → Store → Brought
bring (Values ts) params store = brought (all_laid (length store) (trees ts)) (store ++ all_objects (length store) (trees ts))
bring (Message' message) params store = where_taken params (brought (Reference (length store) ∷ []) (store ++ MessageObject message ∷ [])) store
bring Start params store = where_taken params (brought (Reference (length store) ∷ []) (store ++ MapObject [] ∷ [])) store

-- a call was put on top, or could not begin, and then nothing has changed
pub data Put : Type 0 where
  Done : State → Put
  Refused : ErrorCode → Put

abbrev pub put_with : Begun → List Held → Store → Put
put_with (Begins call tasks) below store = Done (state (next call tasks below) store)
put_with (Refuses e) below store = Refused e

-- a call of the function in this home, above the open want or on an idle actor
abbrev pub put : Function → (home : ℕ) → List Home → Arguments → List Held → Store → Put
put f home homes arguments below store =
    let b = bring arguments f.callee.params store in
    put_with (begun OnTop f home (home_of homes home).m b.values (length below)) below b.store

-- ---- what the world asks of an actor

abbrev pub is_idle : Tree → Bool
is_idle (Waits []) = true
is_idle _ = false

abbrev pub is_at_work : Tree → Bool
is_at_work (Works call spot tasks below) = true
is_at_work _ = false

-- the place and the home of the innermost open want
abbrev pub want_place : Tree → Option c.Place
want_place (Waits (h ∷ below)) = Some (place_in h.call.function h.place)
want_place _ = None

abbrev pub want_home : Tree → Option ℕ
want_home (Waits (h ∷ below)) = Some h.call.home
want_home _ = None

abbrev pub wait_of : Given → Option (ℕ × Bool)
wait_of (Wants (Wait port limited)) = Some (port, limited)
wait_of _ = None

-- the port, and whether the time is above 0, where the next step is a wait for a message
abbrev pub next_wait : Program → (actor : ℕ) → List Home → Tree → Store → Option (ℕ × Bool)
next_wait p actor homes (Works call (AtHead head at vs context base) tasks below) store = wait_of (contract (setting_of p actor homes call) head at vs store)
next_wait p actor homes tree store = None
