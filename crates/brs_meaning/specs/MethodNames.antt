-- The folded names of methods, by what they are called on.
use Rattle.std.specs.Prelude.{ℕ, List, [], ◌∷◌, Option, codes}
use Rattle.plain_operations.specs.Names.{beside}
use Rattle.object_operations.specs.MethodNames.{array_words, map_words, message_words}
use Rattle.object_operations.specs.declared.array_method.ArrayMethod.{ArrayMethod}
use Rattle.object_operations.specs.declared.map_method.MapMethod.{MapMethod}
use Rattle.object_operations.specs.declared.message_method.MessageMethod.{MessageMethod}
use Rattle.brs_meaning.specs.declared.node_method.NodeMethod.{NodeMethod}
use Rattle.brs_meaning.specs.declared.node_method.NodeMethod.TheVariants as m

abbrev pub node_words : List (List ℕ × NodeMethod)
node_words =
    (codes "getfield", m.GetField)
    ∷ (codes "setfield", m.SetField)
    ∷ (codes "hasfield", m.HasField)
    ∷ (codes "addfield", m.AddField)
    ∷ (codes "observefield", m.ObserveField)
    ∷ (codes "unobservefield", m.UnobserveField)
    ∷ (codes "appendchild", m.AppendChild)
    ∷ (codes "insertchild", m.InsertChild)
    ∷ (codes "removechild", m.RemoveChild)
    ∷ (codes "createchild", m.CreateChild)
    ∷ (codes "getchild", m.GetChild)
    ∷ (codes "getchildcount", m.GetChildCount)
    ∷ (codes "getparent", m.GetParent)
    ∷ (codes "findnode", m.FindNode)
    ∷ (codes "setfocus", m.SetFocus)
    ∷ (codes "hasfocus", m.HasFocus)
    ∷ (codes "isinfocuschain", m.IsInFocusChain)
    ∷ (codes "subtype", m.Subtype)
    ∷ (codes "callfunc", m.CallFunc)
    ∷ (codes "issamenode", m.IsSameNode)
    ∷ []

abbrev pub array_method_named : List ℕ → Option ArrayMethod
array_method_named name = beside array_words name

abbrev pub map_method_named : List ℕ → Option MapMethod
map_method_named name = beside map_words name

abbrev pub message_method_named : List ℕ → Option MessageMethod
message_method_named name = beside message_words name

abbrev pub node_method_named : List ℕ → Option NodeMethod
node_method_named name = beside node_words name
