-- What holds of every channel: what the check of a folder sees to before anything runs.
use Rattle.std.specs.Prelude.{◌≡◌, ℕ, ◌<◌, true, List, length, is_some, IfSome}
use Rattle.std.specs.List.{AllByRecursion}
use Rattle.field_types.specs.Plans.{IsPlanTable}
use Rattle.heap_meaning.specs.Values.{Entry}
use Rattle.brs_grammar.specs.Form.{Text}
use Rattle.world_meaning.specs.Channel.{Channel, Component, function_in, function_at, main_of}

-- a number names a function
abbrev pub IsFunction : Channel → ℕ → Type 0
IsFunction ch f = is_some (ch.program.function f) ≡ true

-- a name is one of the functions in a component's scope
abbrev pub IsInScope : Channel → Component → Text → Type 0
IsInScope ch component name = is_some (function_in ch component name) ≡ true

pub record IsComponent (ch : Channel) (component : Component) : Type 0 where
  pub scope : component.scope < length ch.program.scopes
  pub init : IfSome component.init (IsFunction ch)
  pub on_change : AllByRecursion (λ e. IsInScope ch component e.value) component.on_change
  pub interface : AllByRecursion (IsInScope ch component) component.interface

pub record IsChannel (ch : Channel) : Type 0 where
  -- a kind's base and the kinds of its children stand before it, and no opening value of a field names a node
  pub plans : IsPlanTable ch.plans
  -- each kind has its place among the components
  pub places : length ch.components ≡ length ch.plans
  pub components : AllByRecursion (λ o. IfSome o (IsComponent ch)) ch.components
  -- what a scope names is there
  pub scopes : AllByRecursion (AllByRecursion (λ e. IsFunction ch e.value)) ch.program.scopes
  -- there is a first function for actor 1
  pub main : is_some (function_at ch (main_of ch)) ≡ true
