-- The scripts of components, one after another.
use Rattle.std.specs.Prelude.{Bool, if◌then◌else◌, List, [], ◌∷◌}
use Rattle.std.specs.List.{flat_map}
use Rattle.chan_values.specs.declared.folder_fault.FolderFault.{FolderFault}
use Rattle.folder_rules.specs.declared.component.PathedComponent.{PathedComponent}
use Rattle.folder_rules.specs.ScriptFaults.{missing_script}
use Rattle.folder_rules.specs.Scripts.{Source}

-- the scripts of a component whose uri names no source file
abbrev pub missing_in : List Source → PathedComponent → List FolderFault
missing_in sources c = flat_map (missing_script sources c.path) c.file.scripts

-- a source text, unless it is a file that was named before
abbrev pub kept : Bool → Source → List Source
kept is_named s = if s.text.inline then s ∷ [] else if is_named then [] else s ∷ []
