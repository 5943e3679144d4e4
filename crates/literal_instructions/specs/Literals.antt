-- What literals give of their values, and how an object gets them one by one.
use Rattle.std.specs.Prelude.{◌≡◌, ℕ, List, [], ◌∷◌, ◌++◌, map, length, take, drop, Some, slice_get, slice_set}
use Rattle.chan_values.specs.Folded.{folded}
use Rattle.heap_meaning.specs.Values.{Value, StoreValue, Reference, Entry}
use Rattle.heap_meaning.specs.Store.{ArrayObject, MapObject, Store}
use Rattle.heap_meaning.specs.Stands.{Naming, Outside, meaning, Stands}
use Rattle.heap_meaning.specs.Heap.{Heap}
use Rattle.object_operations.specs.Answer.{Answer, Gives}
use Rattle.object_operations.specs.Applies.{AreOut}
use Rattle.brs_grammar.specs.Form.{Text}
use Rattle.brs_code.specs.declared.function.Function.{Function}
use Rattle.brs_meaning.specs.Heads.{entries}
use Rattle.machine_meaning.specs.Image.{Image}
use Rattle.frame_stack.specs.Frame.{Frame}
use Rattle.actor_meaning.specs.View.{Home}
use Rattle.instruction_effects.specs.Effects.{Runs}

-- ---- what literals give

abbrev pub array_row : List StoreValue → Store → Answer
array_row vs store = Gives (Reference (length store)) (store ++ ArrayObject vs ∷ [])

abbrev pub pairs_row : List Text → List StoreValue → Store → Answer
pairs_row keys vs store = Gives (Reference (length store)) (store ++ MapObject (entries keys vs []) ∷ [])

-- ---- one by one

-- whatever the store that the heap stands for, the array has these values too, behind its items
pub record Extends (old new : Heap) (array : Value) (more : List Value) : Type 0 where
  pub stands : (name : Naming) (store : Store) (before : Outside) (n : ℕ) (items : List StoreValue)
      → Stands name old.cells store before → AreOut (array ∷ more) before
      → meaning name array ≡ Reference n → slice_get store n ≡ Some (ArrayObject items)
      → Stands name new.cells (slice_set store n (ArrayObject (items ++ map (meaning name) more))) before

-- whatever the store that the heap stands for, the associative array has these values too, at these keys when they are folded
pub record Enters (old new : Heap) (pairs : Value) (keys : List Text) (values : List Value) : Type 0 where
  pub stands : (name : Naming) (store : Store) (before : Outside) (n : ℕ) (so_far : List (Entry StoreValue))
      → Stands name old.cells store before → AreOut (pairs ∷ values) before
      → meaning name pairs ≡ Reference n → slice_get store n ≡ Some (MapObject so_far)
      → Stands name new.cells (slice_set store n (MapObject (entries (map folded keys) (map (meaning name) values) so_far))) before

-- ---- a circumstance

-- the innermost call is one of this function, in which these texts are folded, as keys are
pub record RunsWithKeys (key count : ℕ) (f : Function) (frames : List Frame) (image : Image) (number : ℕ) (homes : List Home) : Type 0 where
  pub runs : Runs f frames image number homes
  pub keys : map folded (take count (drop key f.texts)) ≡ take count (drop key f.texts)
