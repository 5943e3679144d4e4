-- That over a good order no kind which a component names falls back to the kind Node.
use Rattle.std.specs.Prelude.{◌≡◌, ℕ, List, Some, take, slice_get, Contains, IsTrue}
use Rattle.folder_rules.specs.Kinds.{kind_names}
use Rattle.folder_rules.specs.KindFaults.{named_kinds}
use Rattle.folder_rules.specs.Names.{is_among}
use Rattle.folder_rules.specs.declared.component.PathedComponent.{PathedComponent}
use Rattle.kind_order.specs.GoodOrder.{IsGoodOrder}
use Rattle.kind_plans.specs.Plans.{components_at}

-- each kind that a component names, its base and the kinds of its child elements, stands before it, where there is such a kind
abbrev pub NamedKindsStandBefore : Type 0
NamedKindsStandBefore =
    (components : List PathedComponent) (order : List ℕ) → IsGoodOrder components order
    → (at place : ℕ) (c : PathedComponent) (name : List ℕ) → slice_get order at ≡ Some place → slice_get components place ≡ Some c → Contains (named_kinds c) name
    → IsTrue (is_among (kind_names components) name) → IsTrue (is_among (kind_names (components_at components (take at order))) name)
