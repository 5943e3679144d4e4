-- The texts by rows are those by kinds.
use Rattle.std.proofs.Common.{◌≡◌, ℕ, List, ◌++◌, Option, Some, None, ap, ◌∙◌, refl}
use Rattle.std.specs.List.{flat_map}
use Rattle.std.specs.Option.{option_map}
use Rattle.chan_values.specs.Folded.{folded}
use Rattle.folder_rules.specs.declared.component.PathedComponent.{PathedComponent}
use Rattle.folder_rules.specs.declared.names.NameTable.{NameTable}
use Rattle.folder_rules.specs.Children.{ChildTag, child_tags}
use Rattle.folder_rules.specs.Faults.{in_order}
use Rattle.folder_rules.specs.FieldFaults as f
use Rattle.folder_rules.specs.FieldFaults.{all_texts, component_texts, field_text, text_for, type_of, is_earlier_text}
use Rattle.folder_rules.specs.Kinds.{Field, all_kinds, field_named, field_table, kind_names}
use Rattle.folder_rules.specs.Names.{number_in, HasPlaces}
use Rattle.folder_rules.proofs.Lists.{flat_map_same}
use Rattle.field_faults.specs.declared.rows.KindFields.{KindFields}
use Rattle.field_faults.specs.Rows.{field_at, AreRows}
use Rattle.field_faults.specs.Values.{attribute_text, tag_texts, type_there, row_texts}
use Rattle.field_faults.proofs.RowFaults.{field_is}

there : (o : Option Field) → type_there (option_map (λ f. f.holds) o) ≡ type_of o
there None = refl
there (Some x) = refl

module _ (table : NameTable) (cs : List PathedComponent) (has : HasPlaces table (kind_names cs)) (rows : List KindFields) (are : AreRows (kind_names cs) rows (all_kinds cs)) where
  pub type_is : (name id : List ℕ) → type_there (field_at rows (number_in table name) id) ≡ type_of (field_named (field_table (all_kinds cs) name) id)
  type_is name id = ap type_there (field_is table cs has rows are name id) ∙ there (field_named (field_table (all_kinds cs) name) id)

  of_tag : (path : List ℕ) (tag : ChildTag) → tag_texts table rows path tag ≡ f.tag_texts (all_kinds cs) path tag
  of_tag path tag =
      flat_map_same (attribute_text rows (number_in table (folded tag.kind)) path tag) (f.attribute_text (field_table (all_kinds cs) (folded tag.kind)) path tag)
      (λ a. ap (λ t. text_for path tag.line tag.column (folded a.name) t (Some a.value)) (type_is (folded tag.kind) (folded a.name)))
      tag.attributes

  pub texts_same : flat_map (row_texts table rows) cs ≡ all_texts cs
  texts_same =
      flat_map_same (row_texts table rows) (component_texts (all_kinds cs))
      (λ c. ap (λ l. in_order is_earlier_text (flat_map (field_text c.path) c.file.fields ++ l)) (flat_map_same (tag_texts table rows c.path) (f.tag_texts (all_kinds cs) c.path) (of_tag c.path) (child_tags c.file.children)))
      cs
