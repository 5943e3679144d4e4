-- The scripts of components, and the functions in scope.
use Rattle.std.specs.Prelude.{ℕ, Bool, not, ◌&&◌, ◌+◌, ◌==◌, if◌then◌else◌, List, [], ◌∷◌, ◌++◌, Option, Some, None, codes, filter, length, is_some}
use Rattle.std.specs.List.{list_any, flat_map}
use Rattle.std.specs.Str.{bytes_eq}
use Rattle.xml_pieces.specs.Written.{strip}
use Rattle.component_files.specs.declared.element.InlineScript.{InlineScript}
use Rattle.component_files.specs.declared.element.ScriptElement.{ScriptElement}
use Rattle.folder_rules.specs.declared.component.PathedComponent.{PathedComponent}
use Rattle.folder_rules.specs.declared.source.DeclaredFunction.{DeclaredFunction}
use Rattle.folder_rules.specs.declared.source.SourceFunctions.{SourceFunctions}
use Rattle.folder_rules.specs.Names.{is_among}
use Rattle.folder_rules.specs.Kinds.{Kind, component_name, all_kinds, ancestry}

-- ---- functions and their numbers

-- a source text, and the number of its first function
pub record Source : Type 0 where
  pub number : ℕ
  pub text : SourceFunctions

-- functions are numbered over all source texts in order
abbrev pub numbered : ℕ → List SourceFunctions → List Source
numbered number [] = []
numbered number (s ∷ ss) = record { number = number; text = s } ∷ numbered (number + length s.functions) ss

-- a function with its number and its place
pub record Function : Type 0 where
  pub number : ℕ
  pub path : List ℕ
  pub name : List ℕ
  pub line : ℕ
  pub column : ℕ

abbrev pub functions_from : ℕ → List ℕ → List DeclaredFunction → List Function
functions_from number path [] = []
functions_from number path (f ∷ fs) = record { number = number; path = path; name = f.name; line = f.line; column = f.column } ∷ functions_from (number + 1) path fs

abbrev pub functions_in : Source → List Function
functions_in s = functions_from s.number s.text.path s.text.functions

abbrev pub function_named : List Function → List ℕ → Option Function
function_named [] name = None
function_named (f ∷ fs) name = if bytes_eq f.name name then Some f else function_named fs name

-- ---- the file that a uri names

-- a path up to its last slash
abbrev pub folder_of : List ℕ → List ℕ
folder_of [] = []
folder_of (b ∷ bs) = if list_any (λ c. c == 47) (b ∷ bs) then b ∷ folder_of bs else []

abbrev pub path_in : List ℕ → List ℕ → Option (List ℕ) → List ℕ
path_in path uri (Some behind) = behind
path_in path uri None = folder_of path ++ uri

-- `pkg:/` and a path, or a path relative to the folder of the component's file, as written
abbrev pub path_of_uri : List ℕ → List ℕ → List ℕ
path_of_uri path uri = path_in path uri (strip (codes "pkg:/") uri)

abbrev pub is_file : List ℕ → Source → Bool
is_file path s = not s.text.inline && bytes_eq s.text.path path

-- the source file of a path
abbrev pub file_of : List Source → List ℕ → List Source
file_of sources path = filter (is_file path) sources

-- ---- the scripts of a component

abbrev pub is_inline_in : List ℕ → Source → Bool
is_inline_in path s = s.text.inline && bytes_eq s.text.path path

-- the file that a script names
abbrev pub uri_source : List Source → List ℕ → Option (List ℕ) → List Source
uri_source sources path None = []
uri_source sources path (Some uri) = file_of sources (path_of_uri path uri)

-- the next inline script, where the script has one
abbrev pub inline_source : Option InlineScript → List Source → List Source
inline_source None inline = []
inline_source (Some script) [] = []
inline_source (Some script) (s ∷ inline) = s ∷ []

abbrev pub inline_left : Option InlineScript → List Source → List Source
inline_left None inline = inline
inline_left (Some script) [] = []
inline_left (Some script) (s ∷ inline) = inline

-- the sources of scripts in order, of each the file and then the inline script
abbrev pub script_sources : List Source → List ℕ → List Source → List ScriptElement → List Source
script_sources sources path inline [] = []
script_sources sources path inline (s ∷ ss) = uri_source sources path s.uri ++ (inline_source s.inline inline ++ script_sources sources path (inline_left s.inline inline) ss)

-- a file that was named before counts once
abbrev pub each_once : List (List ℕ) → List Source → List Source
each_once named [] = []
each_once named (s ∷ ss) = if s.text.inline then s ∷ each_once named ss else if is_among named s.text.path then each_once named ss else s ∷ each_once (named ++ s.text.path ∷ []) ss

abbrev pub component_sources : List Source → PathedComponent → List Source
component_sources sources c = each_once [] (script_sources sources c.path (filter (is_inline_in c.path) sources) c.file.scripts)

-- ---- scopes

-- the functions of a component's own scripts
abbrev pub own_functions : List Source → PathedComponent → List Function
own_functions sources c = flat_map functions_in (component_sources sources c)

abbrev pub component_named : List PathedComponent → List ℕ → List PathedComponent
component_named components name = filter (λ c. bytes_eq (component_name c) name) components

-- The functions in the scope of a kind: those of its own scripts, and then those of its base's scope. The first of a name is the one that the name
-- reads as.
abbrev pub scope_of : List PathedComponent → List Source → List ℕ → List Function
scope_of components sources name = flat_map (λ k. flat_map (own_functions sources) (component_named components k.name)) (ancestry (all_kinds components) name)

abbrev pub starts_with : List ℕ → List ℕ → Bool
starts_with front bytes = is_some (strip front bytes)

-- a file under `source`
abbrev pub is_in_source : SourceFunctions → Bool
is_in_source s = not s.inline && starts_with (codes "source/") s.path

-- the functions of all files under `source`
abbrev pub source_functions : List Source → List Function
source_functions sources = flat_map functions_in (filter (λ s. is_in_source s.text) sources)
