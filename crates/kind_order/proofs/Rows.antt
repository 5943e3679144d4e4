-- Rows of what each component names.
use Rattle.std.proofs.Common.{◌≡◌, ℕ, zero, suc, ◌<◌, List, [], ◌∷◌, Option, slice_get, length, map, refl, sym, ap, ◌∙◌, subst}
use Rattle.std.specs.List.{Contains, filter_map, cons_option}
use Rattle.folder_rules.specs.declared.component.PathedComponent.{PathedComponent}
use Rattle.folder_rules.specs.declared.names.NameTable.{NameTable}
use Rattle.folder_rules.specs.KindFaults.{named_kinds}
use Rattle.folder_rules.specs.Kinds.{kind_names}
use Rattle.folder_rules.specs.Names.{HasPlaces}
use Rattle.kind_order.specs.declared.named.NamedComponents.{NamedComponents}
use Rattle.kind_order.specs.Graph.{place_in, named_in, places_of_rows, Leads, at_once, by_way_of, IsWithoutCycle}
use Rattle.kind_order.specs.GoodOrder.{HasNoCycle}
use Rattle.kind_order.specs.Order.{order_of_first, kind_order}
use Rattle.kind_order.proofs.Puts.{order_same}
use Rattle.kind_order.proofs.Ways.{without_cycle}
use Rattle.kind_order.specs.Named.{behind_built_in, component_place, named_components, named_of, named_at}

filter_same : {A B : Type 0} (f g : A → Option B) → ((x : A) → f x ≡ g x) → (xs : List A) → filter_map f xs ≡ filter_map g xs
filter_same f g same [] = refl
filter_same f g same (x ∷ xs) = ap (λ o. cons_option o (filter_map f xs)) (same x) ∙ ap (cons_option (g x)) (filter_same f g same xs)

-- the places that a table has
pub places_are : (table : NameTable) (components : List PathedComponent) → HasPlaces table (kind_names components) → (c : PathedComponent) → filter_map (place_in table) (named_kinds c) ≡ named_components components c
places_are table components has c = filter_same (place_in table) (component_place components) (λ name. ap behind_built_in (has name)) (named_kinds c)

pub named_same : (components : List PathedComponent) (cs : List PathedComponent) (rows : List NamedComponents) → places_of_rows rows ≡ map (named_components components) cs → (place : ℕ) → named_in rows place ≡ named_of components (slice_get cs place)
named_same components [] [] e place = refl
named_same components [] (r ∷ rs) e place = absurd cc
named_same components (c ∷ cs) [] e place = absurd cc
named_same components (c ∷ cs) (r ∷ rs) e zero = first (r.places.items) (named_components components c) (places_of_rows rs) (map (named_components components) cs) e
  where
    first : (x y : List ℕ) (xs ys : List (List ℕ)) → x ∷ xs ≡ y ∷ ys → x ≡ y
    first x y xs ys h = cc
named_same components (c ∷ cs) (r ∷ rs) e (suc k) = named_same components cs rs (behind (r.places.items) (named_components components c) (places_of_rows rs) (map (named_components components) cs) e) k
  where
    behind : (x y : List ℕ) (xs ys : List (List ℕ)) → x ∷ xs ≡ y ∷ ys → xs ≡ ys
    behind x y xs ys h = cc

counted : {A B : Type 0} (f : A → B) (xs : List A) → length (map f xs) ≡ length xs
counted f [] = refl
counted f (x ∷ xs) = ap suc (counted f xs)

pub rows_count : (components : List PathedComponent) (rows : List NamedComponents) → places_of_rows rows ≡ map (named_components components) components → length rows ≡ length components
rows_count components rows e = sym (counted (λ (r : NamedComponents). r.places.items) rows) ∙ ap length e ∙ counted (named_components components) components

-- ---- no cycle, where the same places are named

module _ (f g : ℕ → List ℕ) (same : (place : ℕ) → f place ≡ g place) where
  leads_same : (place other : ℕ) → Leads f place other → Leads g place other
  leads_same place other (at_once n) = at_once (subst (λ l. Contains l other) (same place) n)
  leads_same place other (by_way_of {next = m} n more) = by_way_of (subst (λ l. Contains l m) (same place) n) (leads_same m other more)

pub cycles_same : (f g : ℕ → List ℕ) → ((place : ℕ) → f place ≡ g place) → (m n : ℕ) → n ≡ m → IsWithoutCycle m f → IsWithoutCycle n g
cycles_same f g same m n count w = record {
  inside = λ place other c. subst (λ k. other < k) (sym count) (w.inside place other (subst (λ l. Contains l other) (sym (same place)) c));
  no_way_back = λ place l. w.no_way_back place (leads_same g f (λ p. sym (same p)) place place l);
}

module _ (components : List PathedComponent) (rows : List NamedComponents) (e : places_of_rows rows ≡ map (named_components components) components) where
  pub rows_without_cycle : HasNoCycle components → IsWithoutCycle (length rows) (named_in rows)
  rows_without_cycle none = cycles_same (named_at components) (named_in rows) (λ p. sym (named_same components components rows e p)) (length components) (length rows) (rows_count components rows e) (without_cycle components none)

  pub whole_order : order_of_first (length rows) (named_in rows) (length rows) ≡ kind_order components
  unfolding kind_order
  whole_order = ap (λ n. order_of_first n (named_in rows) n) (rows_count components rows e)
      ∙ order_same (named_in rows) (named_at components) (λ p. named_same components components rows e p) (length components) (length components)
