-- The store of an actor: its objects by number, which refer to one another.
use Rattle.std.specs.Prelude.{◌≡◌, ℕ, ◌+◌, ◌<◌, List, [], ◌∷◌, Some, slice_get, cond, ◌==◌}
use Rattle.chan_values.specs.declared.message.Message.{Message}
use Rattle.heap_meaning.specs.Values.{StoreValue, Reference, Entry}
use Rattle.heap_meaning.specs.Keys.{values_of}

pub data Object : Type 0 where
  ArrayObject : (items : List StoreValue) → Object
  MapObject : (entries : List (Entry StoreValue)) → Object
  MessageObject : (message : Message) → Object

-- object n stands at place n. Nothing is taken out, and a new object gets the store's length.
abbrev pub Store : Type 0
Store = List Object

-- the values that an object holds; a message holds none of this store
abbrev pub members : Object → List StoreValue
members (ArrayObject items) = items
members (MapObject entries) = values_of entries
members (MessageObject message) = []

-- how often a value names object n
abbrev pub mention : ℕ → StoreValue → ℕ
mention n (Reference m) = cond (n == m) 1 0
mention n _ = 0

abbrev pub mentions : ℕ → List StoreValue → ℕ
mentions n [] = 0
mentions n (v ∷ vs) = mention n v + mentions n vs

-- object m has an item that names object n
pub record Refers (store : Store) (m n : ℕ) : Type 0 where
  pub object : Object
  pub there : slice_get store m ≡ Some object
  pub named : 0 < mentions n (members object)

-- no root names the object, and each object that refers to it is reclaimed
pub data Reclaimed (store : Store) (root : ℕ → Type 0) : ℕ → Type 0 where
  reclaimed : {n : ℕ} → (root n → ⊥) → ((m : ℕ) → Refers store m n → Reclaimed store root m) → Reclaimed store root n
