-- What a name reads as.
use Rattle.std.specs.Prelude.{Option, Some, None, cond}
use Rattle.chan_values.specs.declared.error_code.ErrorCode.TheVariants.{E1}
use Rattle.heap_meaning.specs.declared.plain.Plain.TheVariants.{Function}
use Rattle.heap_meaning.specs.Values.{StoreValue, Scalar}
use Rattle.heap_meaning.specs.Store.{Store}
use Rattle.brs_grammar.specs.Form.{Text}
use Rattle.brs_forms.specs.Words.{is_m}
use Rattle.brs_meaning.specs.Program.{scoped}
use Rattle.brs_meaning.specs.Locals.{local}
use Rattle.brs_meaning.specs.Given.{Given, Gives, Fails, Setting}

-- a name that is no local: the function of the home's scope, else the built-in function
abbrev pub function_named : Setting → Text → Option StoreValue
function_named s x = elim (scoped s.program s.scope x) [
  | Some n ↦ Some (Scalar (Function n))
  | None ↦ elim (s.program.built_in_number x) [ Some n ↦ Some (Scalar (Function n)) | None ↦ None ]
]

-- the local of that name where it was assigned
abbrev pub name_value : Setting → Text → Option StoreValue
name_value s x = elim (local x s.locals) [ Some v ↦ Some v | None ↦ function_named s x ]

abbrev pub found : Option StoreValue → Store → Given
found (Some v) store = Gives v store
found None store = Fails E1

abbrev pub named : Setting → Text → Store → Given
named s x store = cond (is_m x) (Gives s.m store) (found (name_value s x) store)
