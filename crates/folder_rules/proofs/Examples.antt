-- Small folders, whose first faults and scopes are worked out by hand.
use Rattle.std.proofs.Common.{◌≡◌, refl, ℕ, true, false, List, [], ◌∷◌, Option, Some, None, map}
use Rattle.std.specs.Prelude.{codes}
use Rattle.component_files.specs.declared.element.ComponentFile.{ComponentFile}
use Rattle.component_files.specs.declared.element.FieldElement.{FieldElement}
use Rattle.component_files.specs.declared.element.FunctionElement.{FunctionElement}
use Rattle.component_files.specs.declared.element.ScriptElement.{ScriptElement}
use Rattle.component_files.specs.declared.element.InlineScript.{InlineScript}
use Rattle.xml_pieces.specs.Written as written
use Rattle.field_types.specs.Words as words
use Rattle.folder_rules.specs.declared.component.PathedComponent.{PathedComponent}
use Rattle.folder_rules.specs.declared.source.DeclaredFunction.{DeclaredFunction}
use Rattle.folder_rules.specs.declared.source.SourceFunctions.{SourceFunctions}
use Rattle.folder_rules.specs.Kinds.{built_in_kinds, built_in_names, all_kinds, field_table}
use Rattle.folder_rules.specs.Scripts.{numbered, scope_of, function_named, path_of_uri}
use Rattle.folder_rules.specs.Faults.{fault_on, first}
use Rattle.folder_rules.specs.KindFaults.{duplicate_components, unknown_bases}
use Rattle.folder_rules.specs.FieldFaults.{duplicate_fields, bad_type, bad_types}
use Rattle.folder_rules.specs.ScriptFaults.{missing_scripts, duplicate_functions, duplicate_fault, unknown_functions, no_main, no_main_fault}

abbrev component : List ℕ → List ℕ → List ℕ → List FieldElement → List FunctionElement → List ScriptElement → PathedComponent
component path name base fields functions scripts = record { path = path; file = record { name = name; extends = base; fields = fields; functions = functions; scripts = scripts; children = []; line = 1; column = 1 } }

abbrev field : List ℕ → List ℕ → ℕ → FieldElement
field id word line = record { id = id; word = word; value = None; always = false; on_change = None; line = line; column = 1 }

abbrev file_script : List ℕ → ScriptElement
file_script uri = record { uri = Some uri; inline = None; line = 2; column = 1 }

abbrev source : List ℕ → List DeclaredFunction → SourceFunctions
source path functions = record { path = path; inline = false; functions = functions }

abbrev function : List ℕ → ℕ → DeclaredFunction
function name line = record { name = name; line = line; column = 5 }

-- the names of the built-in kinds are those of their table
names_are_of_the_table : map (λ k. k.name) built_in_kinds ≡ built_in_names
unfolding built_in_kinds built_in_names
names_are_of_the_table = refl

-- ---- a component with an unknown base, and one with a word that is no type

abbrev unknown : List PathedComponent
unknown = component (codes "components/a.xml") (codes "A") (codes "Nope") [] [] [] ∷ []

unknown_is_no_duplicate : duplicate_components unknown ≡ []
unfolding built_in_names
unknown_is_no_duplicate = refl

unknown_is_found : first (unknown_bases unknown) ≡ Some (fault_on 10 (codes "components/a.xml") 1 (codes "nope"))
unfolding built_in_names
unknown_is_found = refl

abbrev badly_typed : List PathedComponent
badly_typed = component (codes "components/a.xml") (codes "A") (codes "Group") (field (codes "F") (codes "float") 1 ∷ []) [] [] ∷ []

base_is_known : unknown_bases badly_typed ≡ []
unfolding built_in_names
base_is_known = refl

bad_type_is_found : first (bad_types badly_typed) ≡ Some (fault_on 15 (codes "components/a.xml") 1 (codes "f"))
unfolding words.is_alike bad_type
bad_type_is_found = refl

-- ---- two components of one name, in any case of its letters

twice : first (duplicate_components (component (codes "components/a.xml") (codes "A") (codes "Group") [] [] [] ∷ (component (codes "components/b.xml") (codes "a") (codes "Group") [] [] [] ∷ [])))
    ≡ Some (fault_on 9 (codes "components/b.xml") 1 (codes "a"))
unfolding built_in_names
twice = refl

-- ---- a base and a derived component, with functions of one name

abbrev family : List PathedComponent
family =
    component (codes "components/base.xml") (codes "Base") (codes "Group") (field (codes "Seen") (codes "int") 3 ∷ []) [] (file_script (codes "base.brs") ∷ [])
    ∷ component (codes "components/derived.xml") (codes "Derived") (codes "BASE") (field (codes "shown") (codes "bool") 3 ∷ (field (codes "seen") (codes "int") 4 ∷ [])) (record { name = codes "WHO"; line = 5; column = 1 } ∷ (record { name = codes "main"; line = 6; column = 1 } ∷ [])) (file_script (codes "derived.brs") ∷ (file_script (codes "pkg:/components/derived.brs") ∷ []))
    ∷ []

abbrev texts : List SourceFunctions
texts =
    source (codes "components/base.brs") (function (codes "init") 1 ∷ (function (codes "who") 5 ∷ []))
    ∷ source (codes "components/derived.brs") (function (codes "init") 1 ∷ (function (codes "who") 4 ∷ []))
    ∷ source (codes "source/main.brs") (function (codes "main") 1 ∷ [])
    ∷ []

fields_of_base_stand_first : map (λ f. f.id) (field_table (all_kinds family) (codes "derived")) ≡ (codes "id" ∷ (codes "focusable" ∷ (codes "focusedchild" ∷ (codes "visible" ∷ (codes "seen" ∷ (codes "shown" ∷ (codes "seen" ∷ [])))))))
unfolding built_in_kinds
fields_of_base_stand_first = refl

-- the id of a base stands in the derived component once more, on line 4
id_of_base_is_found : first (duplicate_fields family) ≡ Some (fault_on 14 (codes "components/derived.xml") 4 (codes "seen"))
unfolding built_in_kinds
id_of_base_is_found = refl

-- in the derived scope the derived functions stand first; a script that is named twice counts once
derived_function_wins : map (λ f. f.number) (scope_of family (numbered 0 texts) (codes "derived")) ≡ (2 ∷ (3 ∷ (0 ∷ (1 ∷ []))))
unfolding built_in_kinds written.strip
derived_function_wins = refl

scripts_are_there : missing_scripts (numbered 0 texts) family ≡ []
unfolding written.strip
scripts_are_there = refl

-- a function that a base has too is no fault
no_function_stands_twice : duplicate_functions (numbered 0 texts) family ≡ []
unfolding written.strip
no_function_stands_twice = refl

-- the functions of `source` are not in a component's scope
source_is_no_scope_of_components : first (unknown_functions (numbered 0 texts) family) ≡ Some (fault_on 17 (codes "components/derived.xml") 6 (codes "main"))
unfolding built_in_kinds written.strip
source_is_no_scope_of_components = refl

main_is_there : no_main texts ≡ []
unfolding written.strip
main_is_there = refl

-- ---- addresses

in_the_folder_of_the_file : path_of_uri (codes "components/a/x.xml") (codes "../y.brs") ≡ codes "components/a/../y.brs"
unfolding written.strip
in_the_folder_of_the_file = refl

from_the_root : path_of_uri (codes "components/a/x.xml") (codes "pkg:/source/y.brs") ≡ codes "source/y.brs"
unfolding written.strip
from_the_root = refl

no_file_of_that_name : first (missing_scripts (numbered 0 texts) (component (codes "components/a.xml") (codes "A") (codes "Group") [] [] (file_script [] ∷ []) ∷ [])) ≡ Some (fault_on 12 (codes "components/a.xml") 2 [])
unfolding written.strip
no_file_of_that_name = refl

-- ---- an empty source file, and no other

nothing_to_start : first (no_main (source (codes "source/main.brs") [] ∷ [])) ≡ Some no_main_fault
unfolding written.strip
nothing_to_start = refl
