-- A channel as its folder's tables give it: its functions and scopes, how nodes of each kind are made, and what each component says.
use Rattle.std.specs.Prelude.{ℕ, Bool, false, List, length, position, is_some, flat_map, filter_map, Option, Some, None, option_and_then, option_map, slice_get, codes}
use Rattle.std.specs.List.{list_any}
use Rattle.std.specs.Str.{bytes_eq}
use Rattle.chan_values.specs.Folded.{folded}
use Rattle.field_types.specs.declared.plans.KindPlan.{KindPlan}
use Rattle.field_types.specs.Words.{is_alike}
use Rattle.heap_meaning.specs.Values.{Entry}
use Rattle.node_tree.specs.declared.node.Node.{Node}
use Rattle.node_tree.specs.Nodes.{kind_of}
use Rattle.node_tree.specs.Making.{lineage, kind_in}
use Rattle.brs_grammar.specs.Form.{Text}
use Rattle.brs_meaning.specs.Program.{Program, Function, scoped}

-- what a component file says beside the plan of its kind
pub record Component : Type 0 where
  -- the number of its scope: the functions of its own scripts, and those of its bases' scopes that it doesn't have itself
  pub scope : ℕ
  -- the number of the function `init` of its own scripts
  pub init : Option ℕ
  -- the folded ids of its own fields that name a function by `onChange`, in order, each with that function's name
  pub on_change : List (Entry Text)
  -- the folded names of the functions of its own interface
  pub interface : List Text

pub record Channel : Type 0 where
  -- functions and scopes by number
  pub program : Program
  -- how nodes of each kind are made; a kind is known by its place here
  pub plans : List KindPlan
  -- what the component of each kind says, at the kind's place; a built-in kind has none
  pub components : List (Option Component)
  -- the number of the scope of all functions of the folder `source`
  pub source : ℕ
  -- the paths of the files, by the numbers that places name
  pub paths : List Text

-- ---- kinds

-- the place of the kind of this name, in any case of its letters
abbrev pub kind_named : Channel → Text → Option ℕ
kind_named ch name = position (λ p. is_alike p.kind name) ch.plans

-- a kind and the kinds that it extends, the first base first
abbrev pub kinds_of : Channel → (kind : ℕ) → List ℕ
kinds_of ch kind = lineage (length ch.plans) ch.plans (Some kind)

-- whether a kind is this built-in one or extends it
abbrev pub extends : Channel → (built_in : Text) → (kind : ℕ) → Bool
extends ch built_in kind = list_any (λ k. bytes_eq (kind_in (slice_get ch.plans k)) built_in) (kinds_of ch kind)

abbrev pub held : Option (Option Component) → Option Component
held None = None
held (Some o) = o

abbrev pub component_at : Channel → (kind : ℕ) → Option Component
component_at ch kind = held (slice_get ch.components kind)

-- the components of a kind and of the kinds that it extends, the first base first
abbrev pub components_of : Channel → (kind : ℕ) → List Component
components_of ch kind = filter_map (component_at ch) (kinds_of ch kind)

-- ---- functions

-- the function of a name in the scope of a component, in any case of its letters
abbrev pub function_in : Channel → Component → Text → Option ℕ
function_in ch component name = scoped ch.program component.scope (folded name)

-- the function of a name in the scope of a kind. A built-in kind has no scope
abbrev pub function_of_kind : Channel → (kind : ℕ) → Text → Option ℕ
function_of_kind ch kind name = option_and_then (λ component. function_in ch component name) (component_at ch kind)

-- the `init` functions of a kind: its base's before its own
abbrev pub inits_of : Channel → (kind : ℕ) → List ℕ
inits_of ch kind = filter_map (λ component. component.init) (components_of ch kind)

-- the fields of a kind that name a function by `onChange`, in the order of the fields
abbrev pub on_changes_of : Channel → (kind : ℕ) → List (Entry Text)
on_changes_of ch kind = flat_map (λ component. component.on_change) (components_of ch kind)

-- whether a function is in the interface of a kind or of a kind that it extends
abbrev pub has_interface : Channel → (kind : ℕ) → Text → Bool
has_interface ch kind name = list_any (λ component. list_any (bytes_eq (folded name)) component.interface) (components_of ch kind)

-- ---- nodes

abbrev pub kind_of_node : Channel → List Node → (node : ℕ) → Option ℕ
kind_of_node ch nodes n = option_and_then (kind_named ch) (kind_of nodes n)

-- the function of a name in the scope of a node's kind
abbrev pub function_of_node : Channel → List Node → (node : ℕ) → Text → Option ℕ
function_of_node ch nodes n name = option_and_then (λ kind. function_of_kind ch kind name) (kind_of_node ch nodes n)

abbrev pub is_true : Option Bool → Bool
is_true None = false
is_true (Some b) = b

-- whether a node is of a built-in kind or of a kind that extends it
abbrev pub node_extends : Channel → List Node → (node : ℕ) → (built_in : Text) → Bool
node_extends ch nodes n built_in = is_true (option_map (extends ch built_in) (kind_of_node ch nodes n))

-- whether a key visits a node of the focus chain
abbrev pub handles_keys : Channel → List Node → (node : ℕ) → Bool
handles_keys ch nodes n = is_some (function_of_node ch nodes n (codes "onkeyevent"))

-- ---- the first function of actor 1

abbrev pub or_else : {A : Type 0} → Option A → Option A → Option A
or_else (Some x) o = Some x
or_else None o = o

-- `Main`, or `RunUserInterface` where there is no `Main`
abbrev pub main_of : Channel → Option ℕ
main_of ch = or_else (scoped ch.program ch.source (codes "main")) (scoped ch.program ch.source (codes "runuserinterface"))

-- the function that a number names
abbrev pub function_at : Channel → Option ℕ → Option Function
function_at ch o = option_and_then ch.program.function o
