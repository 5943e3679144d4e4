-- Source texts with the numbers of their functions, and by path.
use Rattle.std.specs.Prelude.{◌≡◌, ℕ, List, [], map, filter, length}
use Rattle.std.specs.Option.{option_map_or}
use Rattle.std.specs.BTreeMap.{get_by_text}
use Rattle.std.specs.List.{sum_by}
use Rattle.folder_rules.specs.Scripts.{Source, file_of, is_inline_in}
use Rattle.folder_rules.specs.declared.source.SourceFunctions.{SourceFunctions}
use Rattle.script_faults.specs.declared.source.NumberedSource.{NumberedSource}
use Rattle.script_faults.specs.declared.groups.SourceGroups.{SourceGroups}
use Rattle.script_faults.specs.declared.table.SourceTable.{SourceTable}

-- how many functions source texts have together
abbrev pub function_count : List SourceFunctions → ℕ
function_count sources = sum_by (λ s. length s.functions) sources

abbrev pub source_of : NumberedSource → Source
source_of s = record { number = s.number; text = s.text.now }

abbrev pub sources_of : List NumberedSource → List Source
sources_of sources = map source_of sources

-- the source texts of a path
abbrev pub sources_at : SourceGroups → List ℕ → List Source
sources_at groups path = sources_of (option_map_or (λ group. group.items) (get_by_text groups.groups path) [])

-- all source texts of a table
abbrev pub all_sources : SourceTable → List Source
all_sources table = sources_of table.all.items

-- a table has these source texts, and finds the files and the inline scripts among them
pub record IsTableOf (table : SourceTable) (sources : List Source) : Type 0 where
  pub all : all_sources table ≡ sources
  pub files : (path : List ℕ) → sources_at table.files path ≡ file_of sources path
  pub inline : (path : List ℕ) → sources_at table.inline path ≡ filter (is_inline_in path) sources

-- a table finds the files and the inline scripts among its source texts
abbrev pub IsIndexed : SourceTable → Type 0
IsIndexed table = IsTableOf table (all_sources table)
