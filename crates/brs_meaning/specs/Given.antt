-- What the redex of an expression gives.
use Rattle.std.specs.Prelude.{ℕ, List, [], ◌∷◌, ◌++◌, length, Option}
use Rattle.chan_values.specs.declared.error_code.ErrorCode.{ErrorCode}
use Rattle.heap_meaning.specs.Values.{StoreValue, Reference}
use Rattle.heap_meaning.specs.Store.{Object, Store}
use Rattle.object_operations.specs.Answer as a
use Rattle.object_operations.specs.Answer.{Answer}
use Rattle.brs_meaning.specs.Locals.{Locals}
use Rattle.brs_meaning.specs.Program.{Program, Function}
use Rattle.brs_meaning.specs.Request.{Request}

pub data Given : Type 0 where
  -- a value, and the store after it
  Gives : StoreValue → Store → Given
  -- a call of a function of the source, with this `m`, or with that of the home
  Calls : Function → (m : Option StoreValue) → (arguments : List StoreValue) → Given
  Wants : Request → Given
  Fails : ErrorCode → Given

-- what an expression may look at: the channel, the number of the actor, the function of the call, the scope of its home, its `m` and
-- its locals
pub record Setting : Type 0 where
  pub program : Program
  pub actor : ℕ
  pub function : Function
  pub scope : ℕ
  pub m : StoreValue
  pub locals : Locals

-- a new object
abbrev pub makes : Object → Store → Given
makes object store = Gives (Reference (length store)) (store ++ object ∷ [])

-- the answer of an operation
abbrev pub answered : Answer → Given
answered (a.Gives v store) = Gives v store
answered (a.Raises e) = Fails e
