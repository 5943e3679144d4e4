-- The named functions that a source file declares.
use Rattle.std.specs.Prelude.{ℕ, Bool, List, map}
use Rattle.chan_values.specs.Folded.{folded}
use Rattle.brs_forms.specs.Words.{readable}
use Rattle.brs_grammar.specs.declared.tree.Name.{Name}
use Rattle.brs_grammar.specs.declared.tree.NamedFunction.{NamedFunction}
use Rattle.brs_grammar.specs.declared.tree.NamedFunction.TheVariants as named
use Rattle.folder_rules.specs.declared.source.DeclaredFunction.{DeclaredFunction}
use Rattle.folder_rules.specs.declared.source.SourceFunctions.{SourceFunctions}

abbrev pub name_of : NamedFunction → Name
name_of (named.Function at name rest) = name
name_of (named.Sub at name rest) = name

-- its name, folded, with its place
abbrev pub declared : NamedFunction → DeclaredFunction
declared f = record { name = folded (readable (name_of f).text); line = (name_of f).place.line; column = (name_of f).place.column }

-- the functions of a source file, or of an inline script of the component file of this path
abbrev pub source_of : List ℕ → Bool → List NamedFunction → SourceFunctions
source_of path inline functions = record { path = path; inline = inline; functions = map declared functions }
