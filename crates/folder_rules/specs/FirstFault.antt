-- The first fault of a channel, kind by kind.
use Rattle.std.specs.Prelude.{◌≡◌, ◌⊎◌, List, [], ◌∷◌, Option, Some, None}
use Rattle.chan_values.specs.declared.folder_fault.FolderFault.{FolderFault}
use Rattle.folder_rules.specs.declared.component.PathedComponent.{PathedComponent}
use Rattle.folder_rules.specs.declared.source.SourceFunctions.{SourceFunctions}
use Rattle.folder_rules.specs.Faults.{first}
use Rattle.folder_rules.specs.Scripts.{numbered}
use Rattle.folder_rules.specs.KindFaults.{duplicate_components, unknown_bases, IsInCycle, cycle_fault, unknown_children}
use Rattle.folder_rules.specs.FieldFaults.{duplicate_fields, bad_types, all_texts, IsUnread, unread_fault}
use Rattle.folder_rules.specs.ScriptFaults.{missing_scripts, duplicate_functions, unknown_functions, no_main}

-- the kinds of faults, in their order
pub data FaultKind : Type 0 where
  DuplicateComponent : FaultKind
  UnknownBase : FaultKind
  Cycle : FaultKind
  MissingScript : FaultKind
  DuplicateFunction : FaultKind
  DuplicateField : FaultKind
  BadFieldType : FaultKind
  BadFieldValue : FaultKind
  UnknownFunction : FaultKind
  UnknownChild : FaultKind
  NoMain : FaultKind

abbrev pub fault_kinds : List FaultKind
fault_kinds = DuplicateComponent ∷ UnknownBase ∷ Cycle ∷ MissingScript ∷ DuplicateFunction ∷ DuplicateField ∷ BadFieldType ∷ BadFieldValue ∷ UnknownFunction ∷ UnknownChild ∷ NoMain ∷ []

-- the fault at the first of these that is wrong, where one is
abbrev pub IsFirstWrong : {A : Type 0} → (A → Type 0) → (A → FolderFault) → List A → Option FolderFault → Type 0
IsFirstWrong wrong fault [] found = found ≡ None
IsFirstWrong wrong fault (x ∷ xs) found = (wrong x × (found ≡ Some (fault x))) ⊎ ((wrong x → ⊥) × IsFirstWrong wrong fault xs found)

-- the first fault of a kind, where there is one: components stand in order of path, and so do sources, the inline scripts after their component file
abbrev pub IsFirstOfKind : List PathedComponent → List SourceFunctions → FaultKind → Option FolderFault → Type 0
IsFirstOfKind components sources DuplicateComponent found = found ≡ first (duplicate_components components)
IsFirstOfKind components sources UnknownBase found = found ≡ first (unknown_bases components)
IsFirstOfKind components sources Cycle found = IsFirstWrong (IsInCycle components) cycle_fault components found
IsFirstOfKind components sources MissingScript found = found ≡ first (missing_scripts (numbered 0 sources) components)
IsFirstOfKind components sources DuplicateFunction found = found ≡ first (duplicate_functions (numbered 0 sources) components)
IsFirstOfKind components sources DuplicateField found = found ≡ first (duplicate_fields components)
IsFirstOfKind components sources BadFieldType found = found ≡ first (bad_types components)
IsFirstOfKind components sources BadFieldValue found = IsFirstWrong IsUnread unread_fault (all_texts components) found
IsFirstOfKind components sources UnknownFunction found = found ≡ first (unknown_functions (numbered 0 sources) components)
IsFirstOfKind components sources UnknownChild found = found ≡ first (unknown_children components)
IsFirstOfKind components sources NoMain found = found ≡ first (no_main sources)

-- the first fault of the first of these kinds that has one, where one has
abbrev pub IsFirstOfKinds : List PathedComponent → List SourceFunctions → List FaultKind → Option FolderFault → Type 0
IsFirstOfKinds components sources [] found = found ≡ None
IsFirstOfKinds components sources (kind ∷ kinds) found =
    ((fault : FolderFault) × IsFirstOfKind components sources kind (Some fault) × (found ≡ Some fault))
    ⊎ (IsFirstOfKind components sources kind None × IsFirstOfKinds components sources kinds found)

-- the first fault of a channel, none where it has none
abbrev pub IsFirstFault : List PathedComponent → List SourceFunctions → Option FolderFault → Type 0
IsFirstFault components sources found = IsFirstOfKinds components sources fault_kinds found
