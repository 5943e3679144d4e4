-- Faults of a folder in order.
use Rattle.std.specs.Prelude.{ℕ, Bool, true, false, if◌then◌else◌, ◌==◌, nat_lt, List, [], ◌∷◌, Option, Some, None}
use Rattle.chan_values.specs.declared.folder_fault.FolderFault.{FolderFault}

-- a fault on a line of a file
abbrev pub fault_on : ℕ → List ℕ → ℕ → List ℕ → FolderFault
fault_on number path line name = record { number = number; path = path; line = line; column = 0; name = name }

-- this fault, where it is one
abbrev pub fault_where : Bool → FolderFault → List FolderFault
fault_where true fault = fault ∷ []
fault_where false fault = []

-- the first of a list
abbrev pub first : {A : Type 0} → List A → Option A
first [] = None
first (x ∷ xs) = Some x

-- a line and a column, before another line and column
abbrev pub is_before : ℕ × ℕ → ℕ × ℕ → Bool
is_before a b = if a.0 == b.0 then nat_lt a.1 b.1 else nat_lt a.0 b.0

-- put into a list in order, before those that stand at one place with it
abbrev pub put_in_order : {A : Type 0} → (A → A → Bool) → A → List A → List A
put_in_order earlier x [] = x ∷ []
put_in_order earlier x (y ∷ ys) = if earlier y x then y ∷ put_in_order earlier x ys else x ∷ (y ∷ ys)

-- the same items, the earlier ones first; those at one place keep their order
abbrev pub in_order : {A : Type 0} → (A → A → Bool) → List A → List A
in_order earlier [] = []
in_order earlier (x ∷ xs) = put_in_order earlier x (in_order earlier xs)
