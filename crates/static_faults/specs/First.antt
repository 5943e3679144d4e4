-- The first fault by place.
use Rattle.std.specs.Prelude.{◌≡◌, Bool, false, if◌then◌else◌, ◌==◌, nat_lt, List, [], ◌∷◌, All, Contains, Option, None, Some}
use Rattle.static_faults.specs.declared.fault.StaticFault.{StaticFault}

-- whether a fault stands before another one
abbrev pub is_before : StaticFault → StaticFault → Bool
is_before a b = if a.line == b.line then nat_lt a.column b.column else nat_lt a.line b.line

-- the one that stands first, and the first of the two where both stand at one place
abbrev pub earlier : Option StaticFault → Option StaticFault → Option StaticFault
earlier None b = b
earlier (Some a) None = Some a
earlier (Some a) (Some b) = if is_before b a then Some b else Some a

-- the one that stands first; where several stand at that place, the first of them in the list
abbrev pub first_by_place : List StaticFault → Option StaticFault
first_by_place [] = None
first_by_place (x ∷ xs) = earlier (Some x) (first_by_place xs)

-- one of the faults, and none of them stands before it
pub record StandsFirst (fault : StaticFault) (all : List StaticFault) : Type 0 where
  pub listed : Contains all fault
  pub none_before : All (λ other. is_before other fault ≡ false) all
