-- What is found by rows is found by kinds.
use Rattle.std.proofs.Common.{◌≡◌, ℕ, List, [], ◌∷◌, ◌++◌, Some, length, map, sym, ap, ◌∙◌, refl}
use Rattle.std.specs.Prelude.{is_some}
use Rattle.std.specs.List.{flat_map}
use Rattle.std.specs.Option.{option_map}
use Rattle.std.proofs.lemmas.List.{map-append}
use Rattle.folder_rules.specs.declared.component.PathedComponent.{PathedComponent}
use Rattle.folder_rules.specs.declared.names.NameTable.{NameTable}
use Rattle.folder_rules.specs.FieldFaults.{duplicate_fields, duplicate_fields_in, inherited_ids}
use Rattle.folder_rules.specs.Kinds.{all_kinds, base_name, built_in_kinds, built_in_names, component_kind, component_name, field_named, field_table, kind_names}
use Rattle.folder_rules.specs.Names.{is_among, number_in, HasPlaces}
use Rattle.folder_rules.proofs.Lists.{flat_map_same}
use Rattle.field_faults.specs.declared.rows.KindFields.{KindFields}
use Rattle.field_faults.specs.Rows.{field_along, field_at, has_field, base_place, row_faults, AreRows, IsRow}
use Rattle.field_faults.proofs.Lookups.{each_length}
use Rattle.field_faults.proofs.KindRows.{walk_is, named_is_among, repeated_same}

names_of_built_in : built_in_names ≡ map (λ k. k.name) built_in_kinds
unfolding built_in_names built_in_kinds
names_of_built_in = refl

names_of_components : (cs : List PathedComponent) → map component_name cs ≡ map (λ k. k.name) (map component_kind cs)
names_of_components [] = refl
names_of_components (c ∷ cs) = ap (λ l. component_name c ∷ l) (names_of_components cs)

names_are : (cs : List PathedComponent) → kind_names cs ≡ map (λ k. k.name) (all_kinds cs)
names_are cs =
    ap (λ l. l ++ map component_name cs) names_of_built_in ∙ ap (λ l. map (λ k. k.name) built_in_kinds ++ l) (names_of_components cs)
    ∙ sym (map-append (λ k. k.name) built_in_kinds (map component_kind cs))

module _ (table : NameTable) (cs : List PathedComponent) (has : HasPlaces table (kind_names cs)) (rows : List KindFields) (are : AreRows (kind_names cs) rows (all_kinds cs)) where
  -- the field of a kind, bases included
  pub field_is : (name id : List ℕ) → field_at rows (number_in table name) id ≡ option_map (λ f. f.holds) (field_named (field_table (all_kinds cs) name) id)
  field_is name id =
      ap (λ o. field_at rows o id) (has name) ∙ ap (λ n. field_along n rows (base_place (kind_names cs) (Some name)) id) (each_length (IsRow (kind_names cs)) rows (all_kinds cs) are)
      ∙ walk_is (kind_names cs) rows (all_kinds cs) (names_are cs) are id (length (all_kinds cs)) (Some name)

  pub faults_same : flat_map (row_faults table rows) cs ≡ duplicate_fields cs
  faults_same =
      flat_map_same (row_faults table rows) (duplicate_fields_in (all_kinds cs))
      (λ c. repeated_same (has_field rows (number_in table (base_name c))) (is_among (inherited_ids (all_kinds cs) c))
      (λ id. ap is_some (field_is (base_name c) id) ∙ named_is_among (field_table (all_kinds cs) (base_name c)) id)
      c.path [] c.file.fields)
      cs
