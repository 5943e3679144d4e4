-- A table of plans with the plan of one component more.
use Rattle.std.proofs.Common.{◌≡◌, ℕ, zero, suc, ◌+◌, ◌<◌, ◌≤◌, Bool, true, false, cond, List, [], ◌∷◌, ◌++◌, Option, Some, None, length, map, take, get_or, refl, sym, ap, ◌∙◌, arith, subst, append_assoc}
use Rattle.std.specs.Prelude.{slice_get, if◌then◌else◌}
use Rattle.std.specs.List.{cons_option}
use Rattle.std.specs.Option.{option_to_list}
use Rattle.std.specs.Str.{bytes_eq}
use Rattle.std.proofs.lemmas.List.{append-nil, map-append, take_more, length-append}
use Rattle.std.proofs.lemmas.List.Elements.{filter_map-append}
use Rattle.field_types.specs.declared.plans.KindPlan.{KindPlan}
use Rattle.folder_rules.specs.Kinds.{Kind, built_in_names, component_name, kind_names}
use Rattle.folder_rules.specs.Names.{either, number_in, place_from, HasPlaces}
use Rattle.folder_rules.specs.declared.component.PathedComponent.{PathedComponent}
use Rattle.folder_rules.specs.declared.names.NameTable.{NameTable}
use Rattle.folder_rules.proofs.Tables.{places_more}
use Rattle.kind_plans.specs.Filling.{HasPlansOf}
use Rattle.kind_plans.specs.Places.{AreBelow}
use Rattle.field_types.specs.Plans.{IsBase}
use Rattle.kind_plans.specs.Plans.{BuiltInRow, AreBehindBases, row_plan, built_in_plans, component_plan, component_plans, components_at, plan_of}

-- ---- components one after another

pub plans_more : (kinds : List Kind) (xs ys : List PathedComponent) (c : PathedComponent) → component_plans kinds xs (ys ++ c ∷ []) ≡ component_plans kinds xs ys ++ component_plan kinds (xs ++ ys) c ∷ []
plans_more kinds xs [] c = ap (λ l. component_plan kinds l c ∷ []) (sym (append-nil xs))
plans_more kinds xs (y ∷ ys) c =
    ap (λ l. component_plan kinds xs y ∷ l)
    (plans_more kinds (xs ++ y ∷ []) ys c ∙ ap (λ l. component_plans kinds (xs ++ y ∷ []) ys ++ component_plan kinds l c ∷ []) (append_assoc xs (y ∷ []) ys))

names_more : (before : List PathedComponent) (c : PathedComponent) → kind_names before ++ component_name c ∷ [] ≡ kind_names (before ++ c ∷ [])
names_more before c = append_assoc built_in_names (map component_name before) (component_name c ∷ []) ∙ ap (λ l. built_in_names ++ l) (sym (map-append component_name before (c ∷ [])))

-- ---- how many there are

plans_length : (kinds : List Kind) (xs ys : List PathedComponent) → length (component_plans kinds xs ys) ≡ length ys
plans_length kinds xs [] = refl
plans_length kinds xs (y ∷ ys) = ap suc (plans_length kinds (xs ++ y ∷ []) ys)

map_length : {A B : Type 0} (f : A → B) (xs : List A) → length (map f xs) ≡ length xs
map_length f [] = refl
map_length f (x ∷ xs) = ap suc (map_length f xs)

pub nine_names : length built_in_names ≡ 9
unfolding built_in_names
nine_names = refl

nine_plans : length built_in_plans ≡ 9
unfolding built_in_plans
nine_plans = refl

pub table_length : (kinds : List Kind) (before : List PathedComponent) (places : NameTable) (table : List KindPlan) → HasPlansOf kinds before places table → length table ≡ 9 + length before
table_length kinds before places table has =
    sym (map_length plan_of table) ∙ ap length has.plans ∙ length-append built_in_plans (component_plans kinds [] before)
    ∙ ap (λ n. n + length (component_plans kinds [] before)) nine_plans ∙ ap (λ n. 9 + n) (plans_length kinds [] before)

pub names_length : (before : List PathedComponent) → length (kind_names before) ≡ 9 + length before
names_length before = length-append built_in_names (map component_name before) ∙ ap (λ n. n + length (map component_name before)) nine_names ∙ ap (λ n. 9 + n) (map_length component_name before)

-- ---- places are below

place_below : (n : ℕ) (names : List (List ℕ)) (name : List ℕ) (place : ℕ) → place_from n names name ≡ Some place → place < n + length names
place_below n [] name place e = absurd cc
place_below n (x ∷ xs) name place e = go (bytes_eq x name) (λ f. place_below (n + 1) xs name place f) e
  where
    go : (b : Bool) → (place_from (n + 1) xs name ≡ Some place → place < n + 1 + length xs) → cond b (Some n) (place_from (n + 1) xs name) ≡ Some place → place < n + length (x ∷ xs)
    go true h e = let same : n ≡ place = cc in omega arith
    go false h e = let m = h e in omega arith

pub are_below : (names : List (List ℕ)) (places : NameTable) → HasPlaces places names → AreBelow (length names) places
are_below names places has name place e = let m = place_below 0 names name place (sym (has name) ∙ e) in omega arith

pub filled_below : (kinds : List Kind) (before : List PathedComponent) (places : NameTable) (table : List KindPlan) → HasPlansOf kinds before places table → AreBelow (length table) places
filled_below kinds before places table has = subst (λ n. AreBelow n places) (names_length before ∙ sym (table_length kinds before places table has)) (are_below (kind_names before) places has.places)

pub below_wider : (small wide : ℕ) (places : NameTable) → small ≤ wide → AreBelow small places → AreBelow wide places
below_wider small wide places le below name place e = let m = below name place e in omega arith

-- ---- one component more

pub filled_more : (kinds : List Kind) (before : List PathedComponent) (c : PathedComponent) (places after : NameTable) (table more : List KindPlan) (place : ℕ) → place ≡ length table
    → map plan_of more ≡ map plan_of table ++ component_plan kinds before c ∷ []
    → ((name : List ℕ) → number_in after name ≡ either (number_in places name) (if bytes_eq (component_name c) name then Some place else None))
    → HasPlansOf kinds before places table → HasPlansOf kinds (before ++ c ∷ []) after more
filled_more kinds before c places after table more place is plans added has = record {
  places = subst (HasPlaces after) (names_more before c)
      (places_more places after (kind_names before) (component_name c) place (is ∙ table_length kinds before places table has ∙ sym (names_length before)) has.places added);
  plans =
      plans ∙ ap (λ l. l ++ component_plan kinds before c ∷ []) has.plans
      ∙ append_assoc built_in_plans (component_plans kinds [] before) (component_plan kinds before c ∷ [])
      ∙ ap (λ l. built_in_plans ++ l) (sym (plans_more kinds [] before c));
}

pub at_more : (cs : List PathedComponent) (order : List ℕ) (i d : ℕ) → i < length order → components_at cs (take (i + 1) order) ≡ components_at cs (take i order) ++ option_to_list (slice_get cs (get_or order i d))
at_more cs order i d h =
    ap (components_at cs) (take_more order i d h) ∙ filter_map-append (slice_get cs) (take i order) (get_or order i d ∷ []) ∙ ap (λ l. components_at cs (take i order) ++ l) (one (slice_get cs (get_or order i d)))
  where
    one : (o : Option PathedComponent) → cons_option o [] ≡ option_to_list o
    one None = refl
    one (Some x) = refl

at_length : (cs : List PathedComponent) (order : List ℕ) → length (components_at cs order) ≤ length order
at_length cs [] = omega arith
at_length cs (k ∷ order) = go (slice_get cs k) (at_length cs order)
  where
    go : (o : Option PathedComponent) → length (components_at cs order) ≤ length order → length (cons_option o (components_at cs order)) ≤ length (k ∷ order)
    go None h = omega arith
    go (Some x) h = omega arith

taken_length : (order : List ℕ) (i : ℕ) → length (take i order) ≤ i
taken_length [] zero = omega arith
taken_length [] (suc i) = omega arith
taken_length (k ∷ order) zero = omega arith
taken_length (k ∷ order) (suc i) = let h = taken_length order i in omega arith

pub at_few : (cs : List PathedComponent) (order : List ℕ) (i : ℕ) → length (components_at cs (take i order)) ≤ i
at_few cs order i = let a = at_length cs (take i order) in let b = taken_length order i in omega arith

-- ---- the built-in kinds

base_at : (n i : ℕ) (rows : List BuiltInRow) (d : BuiltInRow) → AreBehindBases n rows → i < length rows → IsBase (n + i) (get_or rows i d).0.now (get_or rows i d).1
base_at n i [] d a h = absurd (omega arith)
base_at n zero (row ∷ rows) d a h = subst (λ k. IsBase k row.0.now row.1) (omega arith) a.0
base_at n (suc i) (row ∷ rows) d a h = let b = base_at (n + 1) i rows d a.1 (omega arith) in subst (λ k. IsBase k (get_or rows i d).0.now (get_or rows i d).1) (omega arith) b

taken_whole : {A : Type 0} (i : ℕ) (xs : List A) → i < length xs → length (take i xs) ≡ i
taken_whole i [] h = absurd (omega arith)
taken_whole zero (x ∷ xs) h = refl
taken_whole (suc i) (x ∷ xs) h = ap suc (taken_whole i xs (omega arith))

pub built_in_base : (rows : List BuiltInRow) (i : ℕ) (d : BuiltInRow) (table : List KindPlan) → AreBehindBases 0 rows → i < length rows → map plan_of table ≡ map row_plan (take i rows) → IsBase (length table) (get_or rows i d).0.now (get_or rows i d).1
built_in_base rows i d table a h filled =
    let e : i ≡ length table = sym (sym (map_length plan_of table) ∙ ap length filled ∙ map_length row_plan (take i rows) ∙ taken_whole i rows h) in
    subst (λ n. IsBase n (get_or rows i d).0.now (get_or rows i d).1) e (subst (λ n. IsBase n (get_or rows i d).0.now (get_or rows i d).1) (omega arith) (base_at 0 i rows d a h))

-- ---- none more

pub filled_same : (kinds : List Kind) (before : List PathedComponent) (o : Option PathedComponent) (places : NameTable) (table : List KindPlan) → o ≡ None → HasPlansOf kinds before places table → HasPlansOf kinds (before ++ option_to_list o) places table
filled_same kinds before o places table e has = subst (λ l. HasPlansOf kinds l places table) (sym (ap (λ o. before ++ option_to_list o) e ∙ append-nil before)) has

pub filled_length : (kinds : List Kind) (cs : List PathedComponent) (order : List ℕ) (i : ℕ) (places : NameTable) (table : List KindPlan) → HasPlansOf kinds (components_at cs (take i order)) places table → (8 < length table) × (length table ≤ 9 + i)
filled_length kinds cs order i places table has =
    let l = table_length kinds (components_at cs (take i order)) places table has in let f = at_few cs order i in
    (omega arith, omega arith)
