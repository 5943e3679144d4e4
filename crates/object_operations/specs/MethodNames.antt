-- The folded names of methods, by what they are called on.
use Rattle.std.specs.Prelude.{ℕ, List, [], ◌∷◌, codes}
use Rattle.object_operations.specs.declared.array_method.ArrayMethod.{ArrayMethod}
use Rattle.object_operations.specs.declared.array_method.ArrayMethod.TheVariants as a
use Rattle.object_operations.specs.declared.map_method.MapMethod.{MapMethod}
use Rattle.object_operations.specs.declared.map_method.MapMethod.TheVariants as p
use Rattle.object_operations.specs.declared.message_method.MessageMethod.{MessageMethod}
use Rattle.object_operations.specs.declared.message_method.MessageMethod.TheVariants as e

abbrev pub array_words : List (List ℕ × ArrayMethod)
array_words =
    (codes "push", a.Push)
    ∷ (codes "unshift", a.Unshift)
    ∷ (codes "pop", a.Pop)
    ∷ (codes "shift", a.Shift)
    ∷ (codes "peek", a.Peek)
    ∷ (codes "delete", a.Delete)
    ∷ (codes "count", a.Count)
    ∷ (codes "clear", a.Clear)
    ∷ (codes "append", a.Append)
    ∷ []

abbrev pub map_words : List (List ℕ × MapMethod)
map_words =
    (codes "addreplace", p.AddReplace)
    ∷ (codes "clear", p.Clear)
    ∷ (codes "lookup", p.Lookup)
    ∷ (codes "doesexist", p.DoesExist)
    ∷ (codes "delete", p.Delete)
    ∷ (codes "count", p.Count)
    ∷ []

abbrev pub message_words : List (List ℕ × MessageMethod)
message_words =
    (codes "getfield", e.Field)
    ∷ (codes "getnode", e.Id)
    ∷ (codes "getrosgnode", e.Node)
    ∷ []
