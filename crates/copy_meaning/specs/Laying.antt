-- Laying a tree down in a store: its arrays and associative arrays are new objects, numbered in preorder.
use Rattle.std.specs.Prelude.{◌≡◌, ℕ, ◌+◌, List, [], ◌∷◌, ◌++◌, length}
use Rattle.chan_values.specs.Tree as t
use Rattle.chan_values.specs.Tree.{Kind, Array, Keyed, Tree, Leaf, Branch, Trees, none, more}
use Rattle.heap_meaning.specs.declared.plain.Plain.TheVariants.{Invalid, Truth, Small, Big, Node, Port}
use Rattle.heap_meaning.specs.Values.{Value, StoreValue, Scalar, Words, Reference, Entry}
use Rattle.heap_meaning.specs.Store.{Object, ArrayObject, MapObject, Store}
use Rattle.heap_meaning.specs.Cells.{occurrence}
use Rattle.heap_meaning.specs.Stands.{Naming, Outside, Stands}
use Rattle.heap_meaning.specs.Heap.{Heap, Made}

abbrev mutual
  -- the number of arrays and associative arrays
  pub containers : Tree → ℕ
  containers (Leaf plain) = 0
  containers (Branch kind ts) = all_containers ts + 1

  pub all_containers : Trees → ℕ
  all_containers none = 0
  all_containers (more t ts) = containers t + all_containers ts

-- a plain value in a store
abbrev pub arriving : t.Plain → StoreValue
arriving t.Invalid = Scalar Invalid
arriving (t.Boolean b) = Scalar (Truth b)
arriving (t.Integer n) = Scalar (Small n)
arriving (t.LongInteger n) = Scalar (Big n)
arriving (t.Words bytes) = Words bytes
arriving (t.NodeNumber n) = Scalar (Node n)
arriving (t.PortNumber n) = Scalar (Port n)

-- the value of a tree whose first object has number n
abbrev pub laid : ℕ → Tree → StoreValue
laid n (Leaf plain) = arriving plain
laid n (Branch kind ts) = Reference n

-- the values of trees whose objects have the numbers from n on, tree after tree
abbrev pub all_laid : ℕ → Trees → List StoreValue
all_laid n none = []
all_laid n (more t ts) = laid n t ∷ all_laid (n + containers t) ts

-- keys with their values, in order
abbrev pub entries_with : List (List ℕ) → List StoreValue → List (Entry StoreValue)
entries_with (key ∷ keys) (value ∷ values) = record { key = key; value = value } ∷ entries_with keys values
entries_with _ _ = []

abbrev pub object_of : Kind → List StoreValue → Object
object_of Array items = ArrayObject items
object_of (Keyed keys) values = MapObject (entries_with keys values)

abbrev mutual
  -- the objects of a tree, of which the first has number n
  pub objects : ℕ → Tree → List Object
  objects n (Leaf plain) = []
  objects n (Branch kind ts) = object_of kind (all_laid (n + 1) ts) ∷ all_objects (n + 1) ts

  pub all_objects : ℕ → Trees → List Object
  all_objects n none = []
  all_objects n (more t ts) = objects n t ++ all_objects (n + containers t) ts

-- the store with the tree laid down in it
abbrev pub with_tree : Store → Tree → Store
with_tree store t = store ++ objects (length store) t

-- the value of a tree that is laid down in the store
abbrev pub value_of_tree : Store → Tree → StoreValue
value_of_tree store t = laid (length store) t

-- the heap stands for the store with the tree laid down in it, and the value shows it
abbrev pub LaysDown : Heap → Heap → Value → Tree → Type 0
LaysDown old new v t =
    (name : Naming) (store : Store) (before after : Outside) → Stands name old.cells store before
    → ((k : ℕ) → after k ≡ occurrence k v + before k) → Made name new (with_tree store t) before after v (value_of_tree store t)
