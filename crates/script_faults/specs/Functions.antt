-- Functions of source texts, with their numbers.
use Rattle.std.specs.Prelude.{◌+◌, List, [], ◌++◌, Option, Some, None, if◌then◌else◌, map}
use Rattle.std.specs.List.{flat_map}
use Rattle.folder_rules.specs.declared.component.PathedComponent.{PathedComponent}
use Rattle.folder_rules.specs.ScriptFaults.{later_functions, is_earlier_function}
use Rattle.folder_rules.specs.Scripts.{Source, Function, own_functions, source_functions}
use Rattle.script_faults.specs.declared.functions.PlacedFunction.{PlacedFunction}

abbrev pub function_of : PlacedFunction → Function
function_of f = record { number = f.first + f.place; path = f.path.now; name = f.declared.now.name; line = f.declared.now.line; column = f.declared.now.column }

abbrev pub functions_of : List PlacedFunction → List Function
functions_of functions = map function_of functions

-- all functions whose names stand before them in their scope level, of `source` and then of the components
abbrev pub all_later : List Source → List PathedComponent → List Function
all_later sources components = later_functions [] (source_functions sources) ++ flat_map (λ c. later_functions [] (own_functions sources c)) components

-- the function, or the other where that stands earlier
abbrev pub earlier_of : Function → Option Function → Function
earlier_of f None = f
earlier_of f (Some g) = if is_earlier_function g f then g else f
