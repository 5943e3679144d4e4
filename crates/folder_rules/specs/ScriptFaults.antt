-- Faults of scripts and functions: addresses that name no file, names that stand twice in one scope level, and functions that aren't there.
use Rattle.std.specs.Prelude.{ℕ, Bool, true, false, not, ◌&&◌, ◌||◌, if◌then◌else◌, List, [], ◌∷◌, ◌++◌, Option, Some, None, codes, map, filter}
use Rattle.std.specs.List.{flat_map, list_any}
use Rattle.std.specs.Ordering.{nat_cmp}
use Rattle.std.specs.Str.{bytes_eq}
use Rattle.std.specs.Cmp.Lexicographic.{slice_cmp}
use Rattle.std.specs.declared.cmp.Ordering.{Ordering}
use Rattle.std.specs.declared.cmp.Ordering.TheVariants.{Less, Equal, Greater}
use Rattle.chan_values.specs.Folded.{folded}
use Rattle.chan_values.specs.declared.folder_fault.FolderFault.{FolderFault}
use Rattle.component_files.specs.declared.element.FieldElement.{FieldElement}
use Rattle.component_files.specs.declared.element.FunctionElement.{FunctionElement}
use Rattle.component_files.specs.declared.element.ScriptElement.{ScriptElement}
use Rattle.folder_rules.specs.declared.component.PathedComponent.{PathedComponent}
use Rattle.folder_rules.specs.declared.source.DeclaredFunction.{DeclaredFunction}
use Rattle.folder_rules.specs.declared.source.SourceFunctions.{SourceFunctions}
use Rattle.folder_rules.specs.Names.{is_among}
use Rattle.folder_rules.specs.Kinds.{component_name}
use Rattle.folder_rules.specs.Scripts.{Source, Function, is_file, is_in_source, path_of_uri, own_functions, scope_of, source_functions}
use Rattle.folder_rules.specs.Faults.{fault_on, fault_where, is_before, in_order}

-- ---- a uri that names no source file

abbrev pub missing_file : List Source → List ℕ → ℕ → Option (List ℕ) → List FolderFault
missing_file sources path line None = []
missing_file sources path line (Some uri) = fault_where (not (list_any (is_file (path_of_uri path uri)) sources)) (fault_on 12 path line uri)

abbrev pub missing_script : List Source → List ℕ → ScriptElement → List FolderFault
missing_script sources path s = missing_file sources path s.line s.uri

abbrev pub missing_scripts : List Source → List PathedComponent → List FolderFault
missing_scripts sources components = flat_map (λ c. flat_map (missing_script sources c.path) c.file.scripts) components

-- ---- a name already in this scope level: all of `source`, or the scripts of one component in order

-- the functions whose names stand before them
abbrev pub later_functions : List (List ℕ) → List Function → List Function
later_functions before [] = []
later_functions before (f ∷ fs) = (if is_among before f.name then f ∷ [] else []) ++ later_functions (before ++ f.name ∷ []) fs

abbrev pub by_path : Ordering → ℕ × ℕ → ℕ × ℕ → Bool
by_path Less a b = true
by_path Equal a b = is_before a b
by_path Greater a b = false

abbrev pub is_earlier_function : Function → Function → Bool
is_earlier_function f g = by_path (slice_cmp nat_cmp f.path g.path) (f.line, f.column) (g.line, g.column)

abbrev pub duplicate_fault : Function → FolderFault
duplicate_fault f = record { number = 13; path = f.path; line = f.line; column = f.column; name = f.name }

abbrev pub duplicate_functions : List Source → List PathedComponent → List FolderFault
duplicate_functions sources components = map duplicate_fault (in_order is_earlier_function
    (later_functions [] (source_functions sources) ++ flat_map (λ c. later_functions [] (own_functions sources c)) components))

-- ---- an onChange or interface function that isn't in the component's scope

-- a function that a tag names, and the place of the tag
pub record NamedFunction : Type 0 where
  pub line : ℕ
  pub column : ℕ
  pub name : List ℕ

abbrev pub change_function : FieldElement → List NamedFunction
change_function e = named_at e.line e.column e.on_change
  where
    named_at : ℕ → ℕ → Option (List ℕ) → List NamedFunction
    named_at line column None = []
    named_at line column (Some name) = record { line = line; column = column; name = folded name } ∷ []

abbrev pub interface_function : FunctionElement → NamedFunction
interface_function e = record { line = e.line; column = e.column; name = folded e.name }

abbrev pub is_earlier_name : NamedFunction → NamedFunction → Bool
is_earlier_name a b = is_before (a.line, a.column) (b.line, b.column)

-- by the place of the tag
abbrev pub named_functions : PathedComponent → List NamedFunction
named_functions c = in_order is_earlier_name (flat_map change_function c.file.fields ++ map interface_function c.file.functions)

abbrev pub unknown_function : List (List ℕ) → List ℕ → NamedFunction → List FolderFault
unknown_function scope path f = fault_where (not (is_among scope f.name)) (fault_on 17 path f.line f.name)

abbrev pub unknown_functions : List Source → List PathedComponent → List FolderFault
unknown_functions sources components = flat_map (λ c. flat_map (unknown_function (map (λ f. f.name) (scope_of components sources (component_name c))) c.path) (named_functions c)) components

-- ---- no Main and no RunUserInterface in the source scope

abbrev pub no_main_fault : FolderFault
no_main_fault = record { number = 19; path = []; line = 0; column = 0; name = [] }

-- a function with which a channel may start
abbrev pub is_start : DeclaredFunction → Bool
is_start f = bytes_eq (codes "main") f.name || bytes_eq (codes "runuserinterface") f.name

abbrev pub has_start : SourceFunctions → Bool
has_start s = is_in_source s && list_any is_start s.functions

abbrev pub no_main : List SourceFunctions → List FolderFault
no_main sources = fault_where (not (list_any has_start sources)) no_main_fault
