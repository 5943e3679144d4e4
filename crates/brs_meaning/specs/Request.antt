-- What an actor asks of the world, with portable values as trees.
use Rattle.std.specs.Prelude.{ℕ, ℤ, Bool, List}
use Rattle.chan_values.specs.Tree.{Tree}
use Rattle.brs_grammar.specs.Form.{Text}

-- an access to a node, or the making of nodes: one for each row of the table of node calls
pub data Access : Type 0 where
  Make : (kind : Text) → Access
  Scene : (kind : Text) → Access
  Get : (node : ℕ) → (field : Text) → Access
  Set : (node : ℕ) → (field : Text) → (value : Tree) → Access
  Has : (node : ℕ) → (field : Text) → Access
  Add : (node : ℕ) → (field kind : Text) → (always : Bool) → Access
  ObserveBy : (node : ℕ) → (field function : Text) → Access
  ObserveAt : (node : ℕ) → (field : Text) → (port : ℕ) → Access
  Unobserve : (node : ℕ) → (field : Text) → Access
  Append : (node child : ℕ) → Access
  Insert : (node child : ℕ) → (at : ℤ) → Access
  Remove : (node child : ℕ) → Access
  Create : (node : ℕ) → (kind : Text) → Access
  Child : (node : ℕ) → (at : ℤ) → Access
  Count : (node : ℕ) → Access
  Parent : (node : ℕ) → Access
  Find : (node : ℕ) → (id : Text) → Access
  Focus : (node : ℕ) → (on : Bool) → Access
  HasFocus : (node : ℕ) → Access
  InChain : (node : ℕ) → Access
  Subtype : (node : ℕ) → Access
  CallFunc : (node : ℕ) → (name : Text) → (arguments : List Tree) → Access

-- an access; a new port; the next message of a port, awaited for a time that is above 0 or without limit; the first message of a port
-- if there is one
pub data Request : Type 0 where
  Asks : Access → Request
  MakePort : Request
  Wait : (port : ℕ) → (limited : Bool) → Request
  Poll : (port : ℕ) → Request
