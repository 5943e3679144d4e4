-- The faults of files as the refusal of a folder gives them.
use Rattle.std.specs.Prelude.{ℕ, List, [], codes}
use Rattle.chan_values.specs.declared.folder_fault.FolderFault.{FolderFault}
use Rattle.brs_tokens.specs.declared.lex_fault.LexKind.{LexKind}
use Rattle.brs_tokens.specs.declared.lex_fault.LexKind.TheVariants as lex
use Rattle.static_faults.specs.declared.fault.StaticKind.{StaticKind}
use Rattle.static_faults.specs.declared.fault.StaticKind.TheVariants as static
use Rattle.component_sources.specs.declared.component.ComponentFault.{ComponentFault}
use Rattle.component_sources.specs.declared.component.ComponentFault.TheVariants.{Element, Script}
use Rattle.file_faults.specs.declared.source.SourceFault.{SourceFault}
use Rattle.file_faults.specs.declared.source.SourceFault.TheVariants.{Lexical, Syntax, Static}

abbrev pub lexical_word : LexKind → List ℕ
lexical_word lex.NotUtf8 = codes "NotUtf8"
lexical_word lex.BadCharacter = codes "BadCharacter"
lexical_word lex.OpenText = codes "OpenText"
lexical_word lex.FloatLiteral = codes "FloatLiteral"
lexical_word lex.Slash = codes "Slash"
lexical_word lex.NumberTooLarge = codes "NumberTooLarge"

abbrev pub static_word : StaticKind → List ℕ
static_word static.ExitOutsideLoop = codes "ExitOutsideLoop"
static_word static.DuplicateParameter = codes "DuplicateParameter"
static_word static.DuplicateFunction = codes "DuplicateFunction"
static_word static.ReservedName = codes "ReservedName"
static_word static.ValueFromSub = codes "ValueFromSub"

abbrev pub fault_at : ℕ → List ℕ → ℕ → ℕ → List ℕ → FolderFault
fault_at number path line column name = record { number = number; path = path; line = line; column = column; name = name }

-- of a source file, or of an inline script of the component file of this path
abbrev pub source_fault : List ℕ → SourceFault → FolderFault
source_fault path (Lexical fault) = fault_at 5 path fault.line fault.column (lexical_word fault.kind)
source_fault path (Syntax fault) = fault_at 6 path fault.line fault.column []
source_fault path (Static fault) = fault_at 7 path fault.line fault.column (static_word fault.kind)

abbrev pub component_fault : List ℕ → ComponentFault → FolderFault
component_fault path (Element fault) = fault_at 8 path fault.line 0 []
component_fault path (Script fault) = source_fault path fault
