-- Rows of a table of kinds: the fields of each kind's own, and the place of its base.
use Rattle.std.specs.Prelude.{◌≡◌, ℕ, zero, suc, Bool, List, [], ◌∷◌, Option, Some, None, ◌++◌, slice_get, is_some, map, length}
use Rattle.std.specs.Option.{option_or}
use Rattle.chan_values.specs.declared.folder_fault.FolderFault.{FolderFault}
use Rattle.field_types.specs.declared.types.FieldType.{FieldType}
use Rattle.folder_rules.specs.declared.component.PathedComponent.{PathedComponent}
use Rattle.folder_rules.specs.declared.names.NameTable.{NameTable}
use Rattle.folder_rules.specs.FieldFaults.{repeated_ids}
use Rattle.folder_rules.specs.Kinds.{Field, Kind, all_kinds, base_name, kind_names}
use Rattle.folder_rules.specs.Names.{number_in, place_of, HasPlaces}
use Rattle.field_faults.specs.declared.rows.KindFields.{KindFields}

-- the item at a place, where there is a place
abbrev pub item_at : {A : Type 0} → List A → Option ℕ → Option A
item_at xs None = None
item_at xs (Some place) = slice_get xs place

-- what the first field of an id holds in a row
abbrev pub own_field : KindFields → List ℕ → Option (Option FieldType)
own_field row id = item_at row.types.items (number_in row.ids id)

abbrev pub from_row : Option KindFields → (KindFields → Option (Option FieldType)) → Option (Option FieldType)
from_row None field = None
from_row (Some row) field = field row

-- What the field of an id holds that the kind at a place has, or one of the kinds that it leads to by bases, at most n of them in all. A base's field
-- comes before that of the kind.
abbrev pub field_along : ℕ → List KindFields → Option ℕ → List ℕ → Option (Option FieldType)
field_along zero rows place id = None
field_along (suc n) rows place id = from_row (item_at rows place) (λ row. option_or (field_along n rows row.base id) (own_field row id))

-- what a field of an id holds of the kind at a place, bases included
abbrev pub field_at : List KindFields → Option ℕ → List ℕ → Option (Option FieldType)
field_at rows place id = field_along (length rows) rows place id

-- whether the kind at a place has a field of this id, bases included
abbrev pub has_field : List KindFields → Option ℕ → List ℕ → Bool
has_field rows place id = is_some (field_at rows place id)

-- the place of a base in a list of names
abbrev pub base_place : List (List ℕ) → Option (List ℕ) → Option ℕ
base_place names None = None
base_place names (Some base) = place_of names base

-- a row has these fields and no others, in this order
pub record HasFields (row : KindFields) (fields : List Field) : Type 0 where
  pub ids : HasPlaces row.ids (map (λ f. f.id) fields)
  pub types : row.types.items ≡ map (λ f. f.holds) fields

-- a row stands for a kind
pub record IsRow (names : List (List ℕ)) (row : KindFields) (kind : Kind) : Type 0 where
  pub own : HasFields row kind.fields
  pub base : row.base ≡ base_place names kind.base

-- a relation at each two items, one after another
abbrev pub Each : {A B : Type 0} → (A → B → Type 0) → List A → List B → Type 0
Each R [] [] = Unit {0}
Each R (x ∷ xs) (y ∷ ys) = R x y × Each R xs ys
Each R _ _ = ⊥

-- rows stand for kinds
abbrev pub AreRows : List (List ℕ) → List KindFields → List Kind → Type 0
AreRows names rows kinds = Each (IsRow names) rows kinds

-- a table has the rows of all kinds, and the names of these their places
pub record HasRowsOf (table : NameTable) (rows : List KindFields) (components : List PathedComponent) : Type 0 where
  pub places : HasPlaces table (kind_names components)
  pub are : AreRows (kind_names components) rows (all_kinds components)

-- one row more, at the end
pub record HasOneMore (before after : List KindFields) (IsLast : KindFields → Type 0) : Type 0 where
  pub row : KindFields
  pub rows : after ≡ before ++ row ∷ []
  pub is : IsLast row

-- a row has this base and these fields
pub record IsOf (base : Option ℕ) (fields : List Field) (row : KindFields) : Type 0 where
  pub own : HasFields row fields
  pub base_is : row.base ≡ base

abbrev pub IsOfWords : KindFields → Option ℕ × List Field → Type 0
IsOfWords row words = IsOf words.0 words.1 row

-- these fields more, behind those that were there
pub record HasFieldsMore (before after : KindFields) (more : List Field) : Type 0 where
  pub own : (fields : List Field) → HasFields before fields → HasFields after (fields ++ more)
  pub base : after.base ≡ before.base

-- the faults of a component by rows
abbrev pub row_faults : NameTable → List KindFields → PathedComponent → List FolderFault
row_faults names rows c = repeated_ids (has_field rows (number_in names (base_name c))) c.path [] c.file.fields
