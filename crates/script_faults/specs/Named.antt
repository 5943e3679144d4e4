-- Functions that a component names, one after another.
use Rattle.std.specs.Prelude.{ℕ, Bool, not, if◌then◌else◌, List, [], ◌∷◌, Option, Some, None}
use Rattle.folder_rules.specs.ScriptFaults.{NamedFunction, is_earlier_name}
use Rattle.script_faults.specs.declared.unknown.UnknownName.{UnknownName}

abbrev pub named : ℕ → ℕ → List ℕ → NamedFunction
named line column name = record { line = line; column = column; name = name }

abbrev pub named_of : UnknownName → NamedFunction
named_of u = named u.line u.column u.name

-- the name so far, or another where its tag stands earlier
abbrev pub latest : Option NamedFunction → NamedFunction → NamedFunction
latest None found = found
latest (Some so_far) found = if is_earlier_name found so_far then found else so_far

-- where a test says which functions are there
abbrev pub is_unknown : (List ℕ → Bool) → NamedFunction → Bool
is_unknown is_there f = not (is_there f.name)

-- the earliest unknown name so far, and one name more
abbrev pub first_unknown : (List ℕ → Bool) → Option NamedFunction → NamedFunction → Option NamedFunction
first_unknown is_there so_far f = if is_unknown is_there f then Some (latest so_far f) else so_far

-- the earliest unknown name so far, and more names one after another
abbrev pub unknown_after : (List ℕ → Bool) → Option NamedFunction → List NamedFunction → Option NamedFunction
unknown_after is_there so_far [] = so_far
unknown_after is_there so_far (f ∷ fs) = unknown_after is_there (first_unknown is_there so_far f) fs
