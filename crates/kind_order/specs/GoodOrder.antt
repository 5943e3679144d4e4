-- Orders in which each component stands once, behind its base and the kinds of its child elements.
use Rattle.std.specs.Prelude.{◌≡◌, ℕ, ◌<◌, ◌==◌, List, Some, None, length, take, slice_get, Contains}
use Rattle.std.specs.List.{IsDistinct}
use Rattle.folder_rules.specs.declared.component.PathedComponent.{PathedComponent}
use Rattle.folder_rules.specs.FirstFault.{IsFirstWrong}
use Rattle.folder_rules.specs.KindFaults.{IsInCycle, cycle_fault}
use Rattle.kind_order.specs.Named.{named_at}

-- no component is reached from itself
abbrev pub HasNoCycle : List PathedComponent → Type 0
HasNoCycle components = IsFirstWrong (IsInCycle components) cycle_fault components None

-- each component stands once in an order, behind the components that it names
pub record IsGoodOrder (components : List PathedComponent) (order : List ℕ) : Type 0 where
  pub size : length order ≡ length components
  pub only : (place : ℕ) → Contains order place → place < length components
  pub all : (place : ℕ) → place < length components → Contains order place
  pub once : IsDistinct (λ a b. a == b) order
  pub behind : (at place other : ℕ) → slice_get order at ≡ Some place → Contains (named_at components place) other → Contains (take at order) other
