-- What a file of a channel's folder holds, or its first fault.
use Rattle.std.specs.Prelude.{◌≡◌, ◌⊎◌, ℕ, true, false, if◌then◌else◌, List, [], ◌∷◌, ◌++◌, map, codes}
use Rattle.chan_values.specs.declared.folder_fault.FolderFault.{FolderFault}
use Rattle.outside.specs.declared.files.FileBytes.{FileBytes}
use Rattle.outside.specs.Folder.{ends_in}
use Rattle.brs_grammar.specs.declared.tree.NamedFunction.{NamedFunction}
use Rattle.folder_rules.specs.declared.component.PathedComponent.{PathedComponent}
use Rattle.folder_rules.specs.declared.source.SourceFunctions.{SourceFunctions}
use Rattle.file_faults.specs.SourceFaults.{IsGoodSource, IsSourceFault}
use Rattle.component_sources.specs.ComponentFaults.{IsGoodComponent, IsComponentFault}
use Rattle.component_sources.specs.declared.component.CheckedComponent.{CheckedComponent}
use Rattle.component_sources.specs.declared.component.ComponentFault.{ComponentFault}
use Rattle.file_faults.specs.declared.source.SourceFault.{SourceFault}
use Rattle.channel_folder.specs.declared.contents.Contents.{Contents}
use Rattle.channel_folder.specs.declared.kind.FileKind.{FileKind}
use Rattle.channel_folder.specs.declared.kind.FileKind.TheVariants.{Source, Component, Other}
use Rattle.channel_folder.specs.DeclaredFunctions.{source_of}
use Rattle.channel_folder.specs.Words.{source_fault, component_fault}

-- by the ending of its path, whatever the case of its letters
abbrev pub kind_of : List ℕ → FileKind
kind_of path = if ends_in (codes ".brs") path then Source else if ends_in (codes ".xml") path then Component else Other

abbrev pub contents : List PathedComponent → List SourceFunctions → Contents
contents components sources = record { components = components; sources = sources }

abbrev pub nothing : Contents
nothing = contents [] []

abbrev pub both : Contents → Contents → Contents
both a b = contents (a.components ++ b.components) (a.sources ++ b.sources)

abbrev pub of_source : List ℕ → List NamedFunction → Contents
of_source path functions = contents [] (source_of path false functions ∷ [])

-- a component, and the functions of its inline scripts
abbrev pub of_component : List ℕ → CheckedComponent → Contents
of_component path c = contents (record { path = path; file = c.file } ∷ []) (map (source_of path true) c.scripts)

-- a file of this kind has no fault, and holds this
abbrev pub HoldsAs : FileKind → FileBytes → Contents → Type 0
HoldsAs Source file held = (functions : List NamedFunction) × IsGoodSource file.bytes 1 functions × (held ≡ of_source file.path functions)
HoldsAs Component file held = (c : CheckedComponent) × IsGoodComponent file.bytes c × (held ≡ of_component file.path c)
HoldsAs Other file held = held ≡ nothing

abbrev pub Holds : FileBytes → Contents → Type 0
Holds file held = HoldsAs (kind_of file.path) file held

-- the fault of a file of this kind
abbrev pub IsFaultAs : FileKind → FileBytes → FolderFault → Type 0
IsFaultAs Source file fault = (of : SourceFault) × IsSourceFault file.bytes 1 of × (fault ≡ source_fault file.path of)
IsFaultAs Component file fault = (of : ComponentFault) × IsComponentFault file.bytes of × (fault ≡ component_fault file.path of)
IsFaultAs Other file fault = ⊥

abbrev pub IsFaultOf : FileBytes → FolderFault → Type 0
IsFaultOf file fault = IsFaultAs (kind_of file.path) file fault
