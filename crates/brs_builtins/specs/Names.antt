-- The folded names of functions, and of methods by what they are called on.
use Rattle.std.specs.Prelude.{ℕ, List, [], ◌∷◌, ◌++◌, map, Option, None, codes}
use Rattle.plain_operations.specs.Names as n
use Rattle.plain_operations.specs.Names.{beside}
use Rattle.object_operations.specs.MethodNames as w
use Rattle.object_operations.specs.declared.receiver.Receiver.{Receiver}
use Rattle.object_operations.specs.declared.receiver.Receiver.TheVariants as r
use Rattle.brs_builtins.specs.declared.operation.Operation.{Operation}
use Rattle.brs_builtins.specs.declared.operation.Operation.TheVariants as o

-- the rows of a table as rows of operations
abbrev pub as_operations : {A : Type 0} → (A → Operation) → List (List ℕ × A) → List (List ℕ × Operation)
as_operations operation rows = map (λ row. (row.0, operation row.1)) rows

abbrev pub function_words : List (List ℕ × Operation)
function_words = as_operations o.Function n.function_words ++ (codes "type", o.TypeName) ∷ (codes "createobject", o.CreateObject) ∷ []

abbrev pub array_words : List (List ℕ × Operation)
array_words = as_operations o.ArrayMethod w.array_words

abbrev pub map_words : List (List ℕ × Operation)
map_words = as_operations o.MapMethod w.map_words ++ (codes "keys", o.Keys) ∷ (codes "append", o.AppendEntries) ∷ []

abbrev pub message_words : List (List ℕ × Operation)
message_words = as_operations o.MessageMethod w.message_words ++ (codes "getdata", o.MessageData) ∷ []

abbrev pub plain_words : List (List ℕ × Operation)
plain_words = as_operations o.PlainMethod n.method_words

abbrev pub function_named : List ℕ → Option Operation
function_named name = beside function_words name

abbrev pub method_named : Receiver → List ℕ → Option Operation
method_named r.Invalid name = None
method_named r.Array name = beside array_words name
method_named r.Pairs name = beside map_words name
method_named r.Message name = beside message_words name
method_named r.Other name = beside plain_words name
