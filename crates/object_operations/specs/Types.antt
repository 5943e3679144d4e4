-- The name of a value's type, and what `CreateObject` makes without a node, a port or a screen.
use Rattle.std.specs.Prelude.{ℕ, List, [], ◌∷◌, ◌++◌, length, Option, Some, None, slice_get, cond, codes}
use Rattle.std.specs.Str.{bytes_eq}
use Rattle.chan_values.specs.Folded.{folded}
use Rattle.chan_values.specs.declared.error_code.ErrorCode.TheVariants.{E2, E6}
use Rattle.heap_meaning.specs.declared.plain.Plain as pl
use Rattle.heap_meaning.specs.declared.plain.Plain.TheVariants as p
use Rattle.heap_meaning.specs.declared.shape.Shape as k
use Rattle.heap_meaning.specs.declared.shape.Shape.TheVariants as s
use Rattle.heap_meaning.specs.Values.{StoreValue, Scalar, Words, Reference}
use Rattle.heap_meaning.specs.Store.{Object, ArrayObject, MapObject, MessageObject, Store}
use Rattle.object_operations.specs.Answer.{Answer, Gives, Raises, invalid}

abbrev pub plain_type : pl.Plain → List ℕ
plain_type p.Invalid = codes "Invalid"
plain_type (p.Truth b) = codes "Boolean"
plain_type (p.Small n) = codes "Integer"
plain_type (p.Big n) = codes "LongInteger"
plain_type (p.Function n) = codes "Function"
plain_type (p.Node n) = codes "roSGNode"
plain_type (p.Port n) = codes "roMessagePort"
plain_type p.Screen = codes "roSGScreen"

abbrev pub object_type : Option Object → List ℕ
object_type (Some (ArrayObject items)) = codes "roArray"
object_type (Some (MapObject entries)) = codes "roAssociativeArray"
object_type (Some (MessageObject message)) = codes "roSGNodeEvent"
object_type None = codes "Invalid"

abbrev pub type_name : StoreValue → Store → List ℕ
type_name (Scalar plain) store = plain_type plain
type_name (Words bytes) store = codes "String"
type_name (Reference n) store = object_type (slice_get store n)

-- `Type(v)`
abbrev pub type_row : List StoreValue → Store → Answer
type_row (v ∷ []) store = Gives (Words (type_name v store)) store
type_row _ store = Raises E6

-- the same of a value of a heap, by the plain value that it is, else by what its cell holds
abbrev pub shape_type : k.Shape → List ℕ
shape_type s.Words = codes "String"
shape_type s.Array = codes "roArray"
shape_type s.Pairs = codes "roAssociativeArray"
shape_type s.Message = codes "roSGNodeEvent"
shape_type s.Plain = codes "Invalid"

abbrev pub type_in : Option pl.Plain → k.Shape → List ℕ
type_in (Some plain) shape = plain_type plain
type_in None shape = shape_type shape

abbrev pub map_made : List StoreValue → Store → Answer
map_made [] store = Gives (Reference (length store)) (store ++ MapObject [] ∷ [])
map_made _ store = Raises E6

-- The names `roMessagePort`, `roSGScreen` and `roSGNode` are the caller's, where it makes such things
-- for them; here they are other names like any.
abbrev pub made : List ℕ → List StoreValue → Store → Answer
made name arguments store =
    cond (bytes_eq name (codes "roarray")) (Gives (Reference (length store)) (store ++ ArrayObject [] ∷ []))
    (cond (bytes_eq name (codes "roassociativearray")) (map_made arguments store) (Gives invalid store))

-- `CreateObject(k, ..)`
abbrev pub create_row : List StoreValue → Store → Answer
create_row [] store = Raises E6
create_row (Words name ∷ arguments) store = made (folded name) arguments store
create_row _ store = Raises E2
