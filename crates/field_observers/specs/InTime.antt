-- The registrations of a run as one list in order of time.
use Rattle.std.specs.Prelude.{ℕ, Bool, ◌||◌, not, List, map, filter}
use Rattle.field_observers.specs.declared.target.Registration.{Registration}
use Rattle.field_observers.specs.Registered.{Registrations, is_place}

-- a registration with its node and the folded name of its field
pub record Observer : Type 0 where
  pub node : ℕ
  pub field : List ℕ
  pub registration : Registration

-- what a node and a field have
abbrev pub in_time : List Observer → Registrations
in_time all n f = map (λ o. o.registration) (filter (λ o. is_place o.node o.field n f) all)

-- whether an observer stays when the others of a field are dropped
abbrev pub stays : ℕ → List ℕ → Observer → Bool
stays node field o = not (is_place node field o.node o.field) || o.registration.fixed
