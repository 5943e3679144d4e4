-- What the functions of these instructions have to know of the code and of the home of the call.
use Rattle.std.specs.Prelude.{◌≡◌, ℕ, List, [], length, Option, Some, None, IfSome, slice_get}
use Rattle.brs_grammar.specs.Form.{Text}
use Rattle.brs_code.specs.declared.function.Function.{Function}
use Rattle.brs_code.specs.declared.scope.ScopeEntry.{ScopeEntry}
use Rattle.brs_code.specs.Join.{function_count}
use Rattle.machine_meaning.specs.Image.{Image, among_entries, number_among}
use Rattle.frame_stack.specs.Frame.{Frame, innermost}
use Rattle.actor_meaning.specs.View.{Home}
use Rattle.instruction_effects.specs.Effects.{Runs}

-- ---- functions by their names

abbrev pub or_number : Option ℕ → Option ℕ → Option ℕ
or_number (Some n) other = Some n
or_number None other = other

-- the function of the scope, else the built-in function, the first of which has this number
abbrev pub function_number : List ScopeEntry → (built_ins : List Text) → (first : ℕ) → Text → Option ℕ
function_number entries built_ins first x = or_number (among_entries entries x) (number_among built_ins x first)

-- ---- the scope of a home

abbrev pub scope_in : Option Home → ℕ
scope_in (Some home) = home.scope
scope_in None = 0

-- a scope that isn't there has no entries
abbrev pub entries_in : Option (List ScopeEntry) → List ScopeEntry
entries_in (Some entries) = entries
entries_in None = []

abbrev pub scope_entries : Image → List Home → (home : ℕ) → List ScopeEntry
scope_entries image homes home = entries_in (slice_get image.code.scopes (scope_in (slice_get homes home)))

-- ---- circumstances

-- the innermost call is one of this function, in a code with so many named functions
pub record RunsBehind (named : ℕ) (f : Function) (frames : List Frame) (image : Image) (number : ℕ) (homes : List Home) : Type 0 where
  pub runs : Runs f frames image number homes
  pub behind : named ≡ length image.code.named

-- the innermost call is one of this function, names are looked up in these entries and these built-in functions, and the code has so many
-- functions
pub record ReadsNames (f : Function) (entries : List ScopeEntry) (built_ins : List Text) (functions : ℕ) (frames : List Frame) (image : Image) (number : ℕ) (homes : List Home) : Type 0 where
  pub runs : Runs f frames image number homes
  pub scope : IfSome (innermost frames) (λ x. entries ≡ scope_entries image homes x.head.home)
  pub built_in : built_ins ≡ image.built_ins
  pub count : functions ≡ function_count image.code
