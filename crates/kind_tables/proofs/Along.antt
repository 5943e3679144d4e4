-- What is looked for along rows is what the kinds of these rows say.
use Rattle.std.proofs.Common.{◌≡◌, ℕ, ◌<◌, arith, ◌||◌, List, [], ◌∷◌, ◌++◌, Option, Some, None, is_some, length, map, refl, sym, ap, ◌∙◌, subst}
use Rattle.std.specs.Prelude.{codes}
use Rattle.std.specs.List.{flat_map}
use Rattle.std.specs.Map.{keys_of}
use Rattle.std.specs.Option.{option_map, option_or}
use Rattle.std.specs.Str.{bytes_eq}
use Rattle.std.proofs.lemmas.List.{map-append}
use Rattle.std.proofs.lemmas.List.Folds.{list_any-append}
use Rattle.chan_values.specs.Folded.{folded}
use Rattle.component_files.specs.declared.element.FieldElement.{FieldElement}
use Rattle.folder_rules.specs.declared.component.PathedComponent.{PathedComponent}
use Rattle.folder_rules.specs.declared.source.SourceFunctions.{SourceFunctions}
use Rattle.folder_rules.specs.Kinds.{Kind, all_kinds, ancestry, component_name, kind_named, kind_names}
use Rattle.folder_rules.specs.Names.{is_among, place_of}
use Rattle.folder_rules.specs.Scripts.{Source, Function, component_named, function_named, numbered, own_functions, scope_of, source_functions}
use Rattle.script_faults.specs.Rows.{Each}
use Rattle.script_faults.proofs.KindRows.{functions_along, names_are}
use Rattle.ordered_names.specs.Values.{value_of}
use Rattle.kind_tables.specs.declared.rows.KindRow.{KindRow}
use Rattle.kind_tables.specs.declared.tables.Tables.{Tables}
use Rattle.kind_tables.specs.Ascending.{name_at}
use Rattle.kind_tables.specs.Rows as R
use Rattle.kind_tables.specs.Rows.{IsRow, handler, named_handler, named_number, row_at, rows_from}
use Rattle.kind_tables.specs.Scopes as S
use Rattle.kind_tables.specs.Tables as T
use Rattle.kind_tables.proofs.Ascending.{SameNames, keys_among, name_at_same}
use Rattle.kind_tables.proofs.Named.{function_value, handler_value, values_of_both}
use Rattle.kind_tables.proofs.Walks.{Stand, ancestry_is, stand_at}

-- the names of functions with their numbers are the names of the functions
names_of_numbers : (fs : List Function) (name : List ℕ) → is_some (value_of (map named_number fs) name) ≡ is_among (map (λ f. f.name) fs) name
names_of_numbers fs name = keys_among (map named_number fs) name ∙ ap (λ l. is_among l name) (go fs)
  where
    go : (gs : List Function) → keys_of (map named_number gs) ≡ map (λ f. f.name) gs
    go [] = refl
    go (g ∷ gs) = ap (λ l. g.name ∷ l) (go gs)

among_both : (xs ys : List (List ℕ)) (name : List ℕ) → is_among (xs ++ ys) name ≡ (is_among xs name || is_among ys name)
among_both xs ys name = list_any-append (λ x. bytes_eq x name) xs ys

module _ (sources : List Source) (components : List PathedComponent) (names : List (List ℕ)) where
  abbrev own : Kind → List Function
  own k = flat_map (own_functions sources) (component_named components k.name)

  number_is : (rows : List KindRow) (kinds : List Kind) → Each (IsRow sources components names) rows kinds → (name : List ℕ) → R.number_along rows name ≡ value_of (map named_number (functions_along sources components kinds)) name
  number_is [] [] e name = refl
  number_is [] (k ∷ ks) e name = absurd e
  number_is (r ∷ rs) [] e name = absurd e
  number_is (r ∷ rs) (k ∷ ks) e name =
      ap (λ o. option_or o (R.number_along rs name)) (e.0.own.functions name)
      ∙ ap (option_or (value_of (map named_number (own k)) name)) (number_is rs ks e.1 name)
      ∙ sym (values_of_both named_number (own k) (functions_along sources components ks) name)

  handler_is : (rows : List KindRow) (kinds : List Kind) → Each (IsRow sources components names) rows kinds → (id : List ℕ) → R.handler_along rows id ≡ value_of (map named_handler (S.fields_along components kinds)) id
  handler_is [] [] e id = refl
  handler_is [] (k ∷ ks) e id = absurd e
  handler_is (r ∷ rs) [] e id = absurd e
  handler_is (r ∷ rs) (k ∷ ks) e id =
      let fields = flat_map (λ (c : PathedComponent). c.file.fields) (component_named components k.name) in
      ap (option_or (R.handler_along rs id)) (e.0.own.handlers id)
      ∙ ap (λ o. option_or o (value_of (map named_handler fields) id)) (handler_is rs ks e.1 id)
      ∙ sym (values_of_both named_handler (S.fields_along components ks) fields id)

  interface_is : (rows : List KindRow) (kinds : List Kind) → Each (IsRow sources components names) rows kinds → (name : List ℕ) → R.interface_along rows name ≡ is_among (S.interface_along components kinds) name
  interface_is [] [] e name = refl
  interface_is [] (k ∷ ks) e name = absurd e
  interface_is (r ∷ rs) [] e name = absurd e
  interface_is (r ∷ rs) (k ∷ ks) e name =
      let own_names = flat_map (λ (c : PathedComponent). map R.interface_name c.file.functions) (component_named components k.name) in
      ap (λ b. b || R.interface_along rs name) (e.0.own.interface name)
      ∙ ap (λ b. is_among own_names name || b) (interface_is rs ks e.1 name)
      ∙ sym (among_both own_names (S.interface_along components ks) name)

  names_is : (rows : List KindRow) (kinds : List Kind) → Each (IsRow sources components names) rows kinds → SameNames (R.names_along rows) (map (λ f. f.name) (functions_along sources components kinds))
  names_is [] [] e name = refl
  names_is [] (k ∷ ks) e name = absurd e
  names_is (r ∷ rs) [] e name = absurd e
  names_is (r ∷ rs) (k ∷ ks) e name =
      among_both (keys_of r.functions) (R.names_along rs) name
      ∙ ap (λ b. b || is_among (R.names_along rs) name) (sym (keys_among r.functions name) ∙ ap is_some (e.0.own.functions name) ∙ names_of_numbers (own k) name)
      ∙ ap (λ b. is_among (map (λ f. f.name) (own k)) name || b) (names_is rs ks e.1 name)
      ∙ sym (among_both (map (λ f. f.name) (own k)) (map (λ f. f.name) (functions_along sources components ks)) name)
      ∙ ap (λ l. is_among l name) (sym (map-append (λ (f : Function). f.name) (own k) (functions_along sources components ks)))

-- ---- tables

pub source_name : (tables : Tables) (kind : List ℕ) (at : ℕ) → length kind < 1 → name_at at (keys_of tables.source) ≡ T.scope_name_in tables kind at
source_name tables [] at h = refl
source_name tables (b ∷ bs) at h = absurd (omega arith)

pub record AreFilled (all : List Source) (components : List PathedComponent) (tables : Tables) : Type 0 where
  pub rows : Each (IsRow all components (kind_names components)) tables.rows.items (all_kinds components)
  pub places : (name : List ℕ) → value_of tables.places name ≡ place_of (kind_names components) name
  pub components_are : (name : List ℕ) → is_some (value_of tables.components name) ≡ is_among (map component_name components) name
  pub source : (name : List ℕ) → value_of tables.source name ≡ value_of (map named_number (source_functions all)) name

module _ (components : List PathedComponent) (sources : List SourceFunctions) (tables : Tables) (filled : AreFilled (numbered 0 sources) components tables) where
  abbrev all : List Source
  all = numbered 0 sources

  along : (kind : List ℕ) → Each (IsRow all components (kind_names components)) (T.rows_of tables kind) (ancestry (all_kinds components) kind)
  along kind = subst (λ o. Each (IsRow all components (kind_names components)) (rows_from (length tables.rows.items) tables.rows.items o) (ancestry (all_kinds components) kind)) (sym (filled.places kind)) (ancestry_is all components (kind_names components) tables.rows.items (all_kinds components) (names_are components) filled.rows kind)

  one : (kind : List ℕ) → Stand all components (kind_names components) (T.row_of tables kind) (kind_named (all_kinds components) kind)
  one kind = subst (λ o. Stand all components (kind_names components) (row_at tables.rows.items o) (kind_named (all_kinds components) kind)) (sym (filled.places kind)) (stand_at all components (kind_names components) tables.rows.items (all_kinds components) (names_are components) filled.rows kind)

  base_is : (kind : List ℕ) → T.base_in tables kind ≡ S.base components kind
  base_is kind = go (T.row_of tables (folded kind)) (kind_named (all_kinds components) (folded kind)) (one (folded kind))
    where
      go : (row : Option KindRow) (k : Option Kind) → Stand all components (kind_names components) row k → T.row_base row ≡ S.base_of k
      go None None s = refl
      go None (Some k) s = absurd s
      go (Some r) None s = absurd s
      go (Some r) (Some k) s = s.base_name_is

  own_init_is : (kind : List ℕ) → T.own_init_in tables kind ≡ S.own_init components sources kind
  own_init_is kind = go (T.row_of tables (folded kind)) (kind_named (all_kinds components) (folded kind)) (one (folded kind))
    where
      go : (row : Option KindRow) (k : Option Kind) → Stand all components (kind_names components) row k → T.row_init row ≡ S.number_of (function_named (S.kind_functions components sources k) (codes "init"))
      go None None s = refl
      go None (Some k) s = absurd s
      go (Some r) None s = absurd s
      go (Some r) (Some k) s = s.own.functions (codes "init") ∙ function_value (flat_map (own_functions all) (component_named components k.name)) (codes "init")

  function_is : (kind name : List ℕ) → T.function_in tables kind name ≡ S.function components sources kind name
  function_is [] name = filled.source (folded name) ∙ function_value (source_functions all) (folded name)
  function_is (b ∷ bs) name =
      let kind = folded (b ∷ bs) in
      number_is all components (kind_names components) (T.rows_of tables kind) (ancestry (all_kinds components) kind) (along kind) (folded name)
      ∙ function_value (scope_of components all kind) (folded name)

  on_change_is : (kind id : List ℕ) → T.on_change_in tables kind id ≡ S.on_change components kind id
  on_change_is kind id =
      let fields = S.fields_along components (ancestry (all_kinds components) (folded kind)) in
      ap T.joined (handler_is all components (kind_names components) (T.rows_of tables (folded kind)) (ancestry (all_kinds components) (folded kind)) (along (folded kind)) (folded id) ∙ handler_value fields (folded id))
      ∙ go (S.field_element fields (folded id))
    where
      go : (o : Option FieldElement) → T.joined (option_map handler o) ≡ S.handler o
      go None = refl
      go (Some e) = refl

  has_interface_is : (kind name : List ℕ) → T.has_interface_in tables kind name ≡ S.has_interface components kind name
  has_interface_is kind name = interface_is all components (kind_names components) (T.rows_of tables (folded kind)) (ancestry (all_kinds components) (folded kind)) (along (folded kind)) (folded name)

  kind_at_is : (at : ℕ) → T.kind_at_in tables at ≡ S.kind_at components at
  kind_at_is at = name_at_same at (keys_of tables.components) (map component_name components) (λ name. sym (keys_among tables.components name) ∙ filled.components_are name)

  scope_name_is : (kind : List ℕ) (at : ℕ) → T.scope_name_in tables kind at ≡ S.scope_name components sources kind at
  scope_name_is [] at =
      name_at_same at (keys_of tables.source) (map (λ f. f.name) (source_functions all))
      (λ name. sym (keys_among tables.source name) ∙ ap is_some (filled.source name) ∙ names_of_numbers (source_functions all) name)
  scope_name_is (b ∷ bs) at =
      let kind = folded (b ∷ bs) in
      name_at_same at (R.names_along (T.rows_of tables kind)) (map (λ f. f.name) (scope_of components all kind))
      (names_is all components (kind_names components) (T.rows_of tables kind) (ancestry (all_kinds components) kind) (along kind))

  pub are_tables : T.AreTablesOf components sources tables
  are_tables = record {
    base = base_is;
    own_init = own_init_is;
    function = function_is;
    on_change = on_change_is;
    has_interface = has_interface_is;
    kind_at = kind_at_is;
    scope_name = scope_name_is;
  }
