-- The kinds of faults from one on, in their order.
use Rattle.std.specs.Prelude.{List, [], ◌∷◌}
use Rattle.folder_rules.specs.FirstFault.{FaultKind, UnknownBase, Cycle, MissingScript, DuplicateFunction, DuplicateField, BadFieldType, BadFieldValue, UnknownFunction, UnknownChild, NoMain}

abbrev pub from_functions : List FaultKind
from_functions = UnknownFunction ∷ (UnknownChild ∷ (NoMain ∷ []))

abbrev pub from_fields : List FaultKind
from_fields = DuplicateField ∷ (BadFieldType ∷ (BadFieldValue ∷ from_functions))

abbrev pub from_scripts : List FaultKind
from_scripts = MissingScript ∷ (DuplicateFunction ∷ from_fields)

abbrev pub from_bases : List FaultKind
from_bases = UnknownBase ∷ (Cycle ∷ from_scripts)
