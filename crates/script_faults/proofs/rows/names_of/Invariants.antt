use Rattle.std.proofs.Common.{◌≡◌, List, ℕ, map, take}
use Rattle.folder_rules.specs.Names.{is_among, is_known}
use Rattle.script_faults.specs.Functions.{functions_of}
use Rattle.script_faults.proofs.rows.names_of.Given as goal

abbrev pub invariant-loop-function : goal.invariant-loop-function
invariant-loop-function l = (name : List ℕ) → is_known l.names name ≡ is_among (map (λ f. f.name) (functions_of (take l.function-index l.functions))) name
