-- Rows of built-in kinds and of components.
use Rattle.std.proofs.Common.{◌≡◌, ℕ, ◌<◌, List, [], ◌∷◌, ◌++◌, Option, is_some, length, get_or, map, refl, sym, ap, ◌∙◌, subst}
use Rattle.std.specs.Prelude.{codes}
use Rattle.std.specs.Option.{option_map}
use Rattle.std.proofs.lemmas.List.{append-nil}
use Rattle.folder_rules.specs.declared.component.PathedComponent.{PathedComponent}
use Rattle.folder_rules.specs.declared.names.NameTable.{NameTable}
use Rattle.folder_rules.specs.Kinds.{Kind, base_name, built_in_kinds, built_in_names, component_kind}
use Rattle.folder_rules.specs.Names.{is_among, HasPlaces}
use Rattle.folder_rules.specs.Scripts.{Source, own_functions, component_named}
use Rattle.script_faults.specs.Rows.{base_place, Each}
use Rattle.script_faults.proofs.Distinct.{Distinct, none_named, only_named}
use Rattle.ordered_names.specs.Values.{value_of}
use Rattle.kind_tables.specs.declared.rows.KindRow.{KindRow}
use Rattle.kind_tables.specs.Rows.{HasOwn, IsBare, IsOfBase, IsOfComponent, IsRow, built_in_bases, interface_name, named_handler, named_number}

abbrev base_named : Option (ℕ × List ℕ) → Option (List ℕ)
base_named base = option_map (λ b. b.1) base

abbrev base_at : Option (ℕ × List ℕ) → Option ℕ
base_at base = option_map (λ b. b.0) base

-- these bases are those of the kinds, and no component has a kind's name
record SaysKind (components : List PathedComponent) (names : List (List ℕ)) (base : Option (ℕ × List ℕ)) (kind : Kind) : Type 0 where
  name : base_named base ≡ kind.base
  place : base_at base ≡ base_place names kind.base
  alone : component_named components kind.name ≡ []

abbrev SayKinds : List PathedComponent → List (List ℕ) → List (Option (ℕ × List ℕ)) → List Kind → Type 0
SayKinds components names bases kinds = Each (SaysKind components names) bases kinds

none_own : (sources : List Source) (row : KindRow) (base : Option ℕ) (name : Option (List ℕ)) → IsBare base name row → HasOwn sources [] row
none_own sources row base name bare = record {
  functions = λ n. ap (λ l. value_of l n) bare.functions;
  handlers = λ n. ap (λ l. value_of l n) bare.handlers;
  interface = λ n. ap (λ l. is_some (value_of l n)) bare.interface;
}

bare_is_row : (sources : List Source) (components : List PathedComponent) (names : List (List ℕ)) (row : KindRow) (base : Option (ℕ × List ℕ)) (kind : Kind) → IsOfBase row base → SaysKind components names base kind → IsRow sources components names row kind
bare_is_row sources components names row base kind bare says = record {
  own = subst (λ l. HasOwn sources l row) (sym says.alone) (none_own sources row (base_at base) (base_named base) bare);
  base_name_is = bare.base_name_is ∙ says.name;
  base_is = bare.base_is ∙ says.place;
}

bases_are_rows : (sources : List Source) (components : List PathedComponent) (names : List (List ℕ)) (rows : List KindRow) (bases : List (Option (ℕ × List ℕ))) (kinds : List Kind)
    → Each IsOfBase rows bases → SayKinds components names bases kinds → Each (IsRow sources components names) rows kinds
bases_are_rows sources components names [] [] [] e s = tt
bases_are_rows sources components names [] [] (k ∷ ks) e s = absurd s
bases_are_rows sources components names [] (b ∷ bs) ks e s = absurd e
bases_are_rows sources components names (r ∷ rs) [] ks e s = absurd e
bases_are_rows sources components names (r ∷ rs) (b ∷ bs) [] e s = absurd s
bases_are_rows sources components names (r ∷ rs) (b ∷ bs) (k ∷ ks) e s = (bare_is_row sources components names r b k e.0 s.0, bases_are_rows sources components names rs bs ks e.1 s.1)

built_in_say : (cs : List PathedComponent) → Distinct built_in_names cs → (names : List (List ℕ)) → SayKinds cs (built_in_names ++ names) built_in_bases built_in_kinds
unfolding built_in_kinds built_in_names
built_in_say cs d names = (
  record { name = refl; place = refl; alone = none_named built_in_names cs d (codes "node") refl },
  (
    record { name = refl; place = refl; alone = none_named built_in_names cs d (codes "group") refl },
    (
      record { name = refl; place = refl; alone = none_named built_in_names cs d (codes "layoutgroup") refl },
      (
        record { name = refl; place = refl; alone = none_named built_in_names cs d (codes "scene") refl },
        (
          record { name = refl; place = refl; alone = none_named built_in_names cs d (codes "label") refl },
          (
            record { name = refl; place = refl; alone = none_named built_in_names cs d (codes "rectangle") refl },
            (
              record { name = refl; place = refl; alone = none_named built_in_names cs d (codes "poster") refl },
              (
                record { name = refl; place = refl; alone = none_named built_in_names cs d (codes "contentnode") refl },
                (
                  record { name = refl; place = refl; alone = none_named built_in_names cs d (codes "task") refl },
                  tt,
                ),
              ),
            ),
          ),
        ),
      ),
    ),
  ),
)

pub built_in_are_rows : (sources : List Source) (cs : List PathedComponent) → Distinct built_in_names cs → (names : List (List ℕ)) (rows : List KindRow) → Each IsOfBase rows built_in_bases → Each (IsRow sources cs (built_in_names ++ names)) rows built_in_kinds
built_in_are_rows sources cs d names rows e = bases_are_rows sources cs (built_in_names ++ names) rows built_in_bases built_in_kinds e (built_in_say cs d names)

one_own : (sources : List Source) (c : PathedComponent) (table : NameTable) (r : KindRow) → IsOfComponent sources table c r → HasOwn sources (c ∷ []) r
one_own sources c table r is = record {
  functions = λ name. is.functions name ∙ ap (λ l. value_of (map named_number l) name) (sym (append-nil (own_functions sources c)));
  handlers = λ id. is.handlers id ∙ ap (λ l. value_of (map named_handler l) id) (sym (append-nil c.file.fields));
  interface = λ name. is.interface name ∙ ap (λ l. is_among l name) (sym (append-nil (map interface_name c.file.functions)));
}

pub component_is_row : (sources : List Source) (cs : List PathedComponent) → Distinct built_in_names cs → (table : NameTable) (names : List (List ℕ)) → HasPlaces table names → (i : ℕ) (c : PathedComponent) → i < length cs → c ≡ get_or cs i c
    → (r : KindRow) → IsOfComponent sources table c r → IsRow sources cs names r (component_kind c)
component_is_row sources cs d table names has i c h at r is = record {
  own = subst (λ l. HasOwn sources l r) (sym (only_named built_in_names cs d i c h at)) (one_own sources c table r is);
  base_name_is = is.base_name_is;
  base_is = is.base_is ∙ has (base_name c);
}
