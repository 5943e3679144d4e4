-- What the world does to a machine: it answers an open want, and puts calls on top.
use Rattle.std.specs.Prelude.{ℕ, Bool, true, false, List, [], ◌∷◌, ◌++◌, length, Option, Some, None}
use Rattle.chan_values.specs.declared.error_code.ErrorCode.{ErrorCode}
use Rattle.chan_values.specs.declared.place.Place.{Place}
use Rattle.chan_values.specs.Tree.{trees}
use Rattle.copy_meaning.specs.Laying.{with_tree, value_of_tree, all_laid, all_objects}
use Rattle.heap_meaning.specs.Values.{StoreValue, Reference}
use Rattle.heap_meaning.specs.Store.{MapObject, MessageObject, Store}
use Rattle.brs_meaning.specs.Locals.{Home}
use Rattle.brs_meaning.specs.Running.{OnTop}
use Rattle.brs_meaning.specs.Request.{Wait}
use Rattle.brs_meaning.specs.Reduction.{Outcome, Asked, home_of}
use Rattle.brs_meaning.specs.Answering.{Reply, Value, Told, Failed, Arguments, Values, Message', Start, Brought, brought}
use Rattle.brs_code.specs.declared.function.Function.{Function}
use Rattle.brs_code.specs.declared.function.Parameter.{Parameter}
use Rattle.machine_meaning.specs.Image.{place_at}
use Rattle.machine_meaning.specs.Frame.{Suspended, Machine, Works, Waits, Fails}
use Rattle.machine_meaning.specs.Entering.{Begun, Begins, Refuses, begun}
use Rattle.machine_meaning.specs.Stepping.{Shown, Shows, Stuck, filled}

-- the machine and the store of an actor
pub record State : Type 0 where
  pub machine : Machine
  pub store : Store

abbrev pub state : Machine → Store → State
state machine store = record { machine = machine; store = store }

-- a value in the place of the innermost call's want
abbrev pub received : StoreValue → Machine → Machine
received v (Waits (h ∷ below)) = filled v h below
received v machine = machine

-- an error that the innermost call raises in its next step
abbrev pub failing : ErrorCode → Machine → Machine
failing e (Waits (h ∷ below)) = Fails e h below
failing e machine = machine

-- a value is laid down anew, and a message is a new object
abbrev pub replied : Reply → Machine → Store → State
replied (Value t) machine store = state (received (value_of_tree store t) machine) (with_tree store t)
replied (Told message) machine store = state (received (Reference (length store)) machine) (store ++ MessageObject message ∷ [])
replied (Failed e) machine store = state (failing e machine) store

abbrev pub where_taken : List Parameter → Brought → Store → Brought
where_taken [] one store = brought [] store
where_taken (x ∷ xs) one store = one

-- what a call that is put on top gets
abbrev pub bring : Arguments → List Parameter → Store → Brought
bring (Values ts) xs store = brought (all_laid (length store) (trees ts)) (store ++ all_objects (length store) (trees ts))
bring (Message' message) xs store = where_taken xs (brought (Reference (length store) ∷ []) (store ++ MessageObject message ∷ [])) store
bring Start xs store = where_taken xs (brought (Reference (length store) ∷ []) (store ++ MapObject [] ∷ [])) store

-- a call was put on top, or could not begin, and then nothing has changed
pub data Put : Type 0 where
  Done : State → Put
  Refused : ErrorCode → Put

abbrev pub put_with : Begun → List Suspended → Store → Put
put_with (Begins frame) below store = Done (state (Works frame below) store)
put_with (Refuses e) below store = Refused e

-- a call of the function in this home, above the open want or on an idle machine
abbrev pub put : Function → (home : ℕ) → List Home → Arguments → List Suspended → Store → Put
put f home homes arguments below store =
    let b = bring arguments f.parameters store in
    put_with (begun OnTop f home (home_of homes home).m b.values (length below)) below b.store

-- ---- what the world asks of a machine

abbrev pub is_idle : Machine → Bool
is_idle (Waits []) = true
is_idle _ = false

-- it has a step
abbrev pub is_at_work : Machine → Bool
is_at_work (Waits below) = false
is_at_work _ = true

-- the place and the home of the innermost open want
abbrev pub want_place : Machine → Option Place
want_place (Waits (h ∷ below)) = Some (place_at h.frame.function h.line)
want_place _ = None

abbrev pub want_home : Machine → Option ℕ
want_home (Waits (h ∷ below)) = Some h.frame.home
want_home _ = None

-- the port, and whether the time is above 0, where a step waits for a message
abbrev pub wait_of : Outcome → Option (ℕ × Bool)
wait_of (Asked (Wait port limited)) = Some (port, limited)
wait_of outcome = None

abbrev pub next_wait : Shown → Option (ℕ × Bool)
next_wait (Shows outcome machine store) = wait_of outcome
next_wait Stuck = None
