-- What each field of each node has, in order of registration. The name of a field stands folded.
use Rattle.std.specs.Prelude.{ℕ, Bool, ◌&&◌, List, [], ◌∷◌, ◌++◌, ◌==◌, filter, if◌then◌else◌, unwrap_or}
use Rattle.std.specs.Str.{bytes_eq}
use Rattle.std.specs.Map.{lookup}
use Rattle.field_observers.specs.declared.target.Target.{Target}
use Rattle.field_observers.specs.declared.target.Registration.{Registration}

-- what a node and a field have
abbrev pub Registrations : Type 0
Registrations = ℕ → List ℕ → List Registration

abbrev pub nothing_registered : Registrations
nothing_registered node field = []

-- whether a place, the second node and field, is that of the first
abbrev pub is_place : ℕ → List ℕ → ℕ → List ℕ → Bool
is_place node field n f = (n == node) && bytes_eq field f

-- with one more at a field of a node, behind its others
abbrev pub registered : ℕ → List ℕ → Registration → Registrations → Registrations
registered node field r all n f = if is_place node field n f then all n f ++ r ∷ [] else all n f

-- without those of a field that aren't fixed
abbrev pub unregistered : ℕ → List ℕ → Registrations → Registrations
unregistered node field all n f = if is_place node field n f then filter (λ r. r.fixed) (all n f) else all n f

abbrev pub target_of : Registration → Target
target_of r = r.target

-- what a field has in the list of a node's fields
abbrev pub of_field : List (List ℕ × List Registration) → List ℕ → List Registration
of_field fields f = unwrap_or (lookup (bytes_eq f) fields) []

-- what a node and a field have in the list of nodes
abbrev pub registrations_of : List (ℕ × List (List ℕ × List Registration)) → Registrations
registrations_of nodes n f = of_field (unwrap_or (lookup (λ m. m == n) nodes) []) f
