-- The table of static faults: a row for each kind.
use Rattle.std.specs.Prelude.{Bool, true, false, not, ◌||◌, List, [], ◌∷◌, ◌++◌, Option, None, Some}
use Rattle.std.specs.List.{list_any}
use Rattle.std.specs.Str.{bytes_eq}
use lib.Chars.{codes}
use Rattle.brs_tokens.specs.declared.place.Place.{Place}
use Rattle.brs_grammar.specs.declared.tree.LoopKind.{LoopKind}
use Rattle.brs_grammar.specs.declared.tree.LoopKind.TheVariants as loop
use Rattle.brs_grammar.specs.declared.tree.TypeWord.{TypeWord}
use Rattle.brs_grammar.specs.declared.tree.TypeWord.TheVariants as type
use Rattle.brs_grammar.specs.Form as p
use Rattle.brs_grammar.specs.Form.{Text, Kind}
use Rattle.static_faults.specs.declared.fault.StaticFault.{StaticFault}
use Rattle.static_faults.specs.declared.fault.StaticKind.{StaticKind}
use Rattle.static_faults.specs.declared.fault.StaticKind.TheVariants.{ExitOutsideLoop, DuplicateParameter, DuplicateFunction, ReservedName, ValueFromSub}
use Rattle.static_faults.specs.declared.fault.Surroundings.{Surroundings}

abbrev pub fault_where : Bool → StaticKind → Place → List StaticFault
fault_where true kind at = record { kind = kind; line = at.line; column = at.column } ∷ []
fault_where false kind at = []

-- ---- what the rows ask

-- whether a folded name is among these folded names
abbrev pub is_among : List Text → Text → Bool
is_among names x = list_any (λ y. bytes_eq y x) names

abbrev pub is_m : Text → Bool
is_m x = bytes_eq x (codes "m")

-- whether a folded name is that of a built-in function
unfoldable pub is_built_in : Text → Bool
is_built_in x = is_among (
    codes "abs" ∷ codes "asc" ∷ codes "chr" ∷ codes "len" ∷ codes "left" ∷ codes "right" ∷ codes "mid" ∷ codes "instr" ∷
    codes "lcase" ∷ codes "ucase" ∷ codes "str" ∷ codes "stri" ∷ codes "strtoi" ∷ codes "type" ∷ codes "createobject" ∷ codes "wait" ∷ []) x

-- whether a loop of this kind stands round it
abbrev pub has_loop : Surroundings → LoopKind → Bool
has_loop s loop.For = s.in_for
has_loop s loop.While = s.in_while

-- whether a function with this type gives a value: a sub without a type doesn't, and nothing does that is `void`
abbrev pub gives_value : Kind → Option TypeWord → Bool
gives_value p.FunctionKind None = true
gives_value p.SubKind None = false
gives_value kind (Some type.Void) = false
gives_value kind (Some other) = true

-- ---- the rows

-- an exit of a loop kind that doesn't stand round it in its function
abbrev pub exit_faults : Surroundings → LoopKind → Place → List StaticFault
exit_faults s kind at = fault_where (not (has_loop s kind)) ExitOutsideLoop at

-- a parameter that has the name of one before it in its list, or is named `m`
abbrev pub parameter_faults : List Text → Text → Place → List StaticFault
parameter_faults before x at = fault_where (is_among before x) DuplicateParameter at ++ fault_where (is_m x) ReservedName at

-- a function that has the name of one before it in the file, or is named `m` or as a built-in function
abbrev pub function_faults : List Text → Text → Place → List StaticFault
function_faults before x at = fault_where (is_among before x) DuplicateFunction at ++ fault_where (is_m x || is_built_in x) ReservedName at

-- a loop variable or an assigned name, with nothing behind it, that is named `m`
abbrev pub variable_faults : Text → Place → List StaticFault
variable_faults x at = fault_where (is_m x) ReservedName at

-- a `return` with a value in a function that gives none
abbrev pub returned_value_faults : Surroundings → Place → List StaticFault
returned_value_faults s at = fault_where (not s.gives_value) ValueFromSub at
