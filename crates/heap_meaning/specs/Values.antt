-- Values as a heap has them, and as the store of an actor has them.
use Rattle.std.specs.Prelude.{ℕ, List}
use Rattle.heap_meaning.specs.declared.plain.Plain.{Plain}
use Rattle.heap_meaning.specs.declared.plain.Plain.TheVariants.{Invalid}

-- a value of a heap: a plain value, or the place of the cell that holds it
pub data Value : Type 0 where
  Direct : (plain : Plain) → Value
  Cell : (place : ℕ) → Value

-- a value of a store: a plain value, a text, or the number of an object
pub data StoreValue : Type 0 where
  Scalar : (plain : Plain) → StoreValue
  Words : (bytes : List ℕ) → StoreValue
  Reference : (object : ℕ) → StoreValue

-- the value that fills an array between its end and a place written past it
abbrev pub filler : Value
filler = Direct Invalid

abbrev pub filler_meant : StoreValue
filler_meant = Scalar Invalid

-- a key of an associative array with its value
pub record Entry (A : Type 0) : Type 0 where
  pub key : List ℕ
  pub value : A
