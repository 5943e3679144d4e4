-- Child elements one after another: what plans and files say of them, which kinds they name, and how many nodes they make.
use Rattle.std.proofs.Common.{◌≡◌, ℕ, ◌+◌, ◌<◌, List, [], ◌∷◌, ◌++◌, map, min, Option, Some, None, refl, sym, ap, ◌∙◌, arith, subst}
use Rattle.std.specs.Prelude.{slice_get}
use Rattle.std.proofs.lemmas.List.{map-append}
use Rattle.std.specs.List.{flat_map}
use Rattle.chan_values.specs.Folded.{folded}
use Rattle.component_files.specs.declared.element.ChildElement.{ChildElement, out-ChildElement}
use Rattle.component_files.specs.declared.element.ChildElement.TheFolds as files
use Rattle.field_types.specs.Elements.{Element, element, elements, element_of, element_step}
use Rattle.field_types.specs.Plans.{elements_of, element_nodes, elements_nodes, made_by, too_many, IsElement, AreElements, NameNoNode}
use Rattle.field_types.specs.declared.plans.ChildPlan.{ChildPlan, out-ChildPlan}
use Rattle.field_types.specs.declared.plans.ChildPlan.TheFolds as plans
use Rattle.field_types.specs.declared.plans.KindPlan.{KindPlan}
use Rattle.folder_rules.specs.Kinds.{Kind}
use Rattle.field_plans.specs.Attributes.{given_by, given_of}
use Rattle.kind_plans.specs.Children.{PlannedChild, planned, and_then, in_order, shown, all_shown, child_of, child_step, planned_child}
use Rattle.folder_rules.specs.Names.{number_in, HasPlaces}
use Rattle.folder_rules.specs.declared.names.NameTable.{NameTable}
use Rattle.field_types.specs.declared.plans.AttributeValue.{AttributeValue}
use Rattle.kind_plans.specs.Places.{place_among, place_or_node, AreBelow}

-- ---- an element of a plan

pub element_is : (c : ChildPlan) → element_of c ≡ element (out-ChildPlan c).place (out-ChildPlan c).values (elements_of (out-ChildPlan c).children)
unfolding element_of
element_is c = plans.fold_out-ChildPlan Element element_step c

shown_elements : (es : List Element) → all_shown (elements es) ≡ in_order (map shown es)
shown_elements [] = refl
shown_elements (e ∷ es) = ap (λ r. and_then (shown e) r) (shown_elements es)

shown_all : (cs : List ChildPlan) → map shown (map element_of cs) ≡ map child_of cs
shown_all [] = refl
shown_all (c ∷ cs) = ap (λ l. child_of c ∷ l) (shown_all cs)

pub child_is : (c : ChildPlan) → child_of c ≡ planned (out-ChildPlan c).place (map given_of (out-ChildPlan c).values) (in_order (map child_of (out-ChildPlan c).children))
child_is c =
    ap shown (element_is c)
    ∙ ap (λ r. planned (out-ChildPlan c).place (map given_of (out-ChildPlan c).values) r) (shown_elements (map element_of (out-ChildPlan c).children) ∙ ap in_order (shown_all (out-ChildPlan c).children))

-- ---- an element of a file

pub file_child_is : (kinds : List Kind) (names : List (List ℕ)) (c : ChildElement)
    → planned_child kinds names c ≡ planned (place_among names (folded (out-ChildElement c).kind)) (flat_map (given_by kinds (folded (out-ChildElement c).kind)) (out-ChildElement c).attributes) (in_order (map (planned_child kinds names) (out-ChildElement c).children))
unfolding planned_child
file_child_is kinds names c = files.fold_out-ChildElement PlannedChild (child_step kinds names) c

-- ---- the kinds that elements name

pub are_more : (limit : ℕ) (xs : List ChildPlan) (y : ChildPlan) → AreElements limit (elements_of xs) → IsElement limit (element_of y) → AreElements limit (elements_of (xs ++ y ∷ []))
are_more limit [] y a e = (e, tt)
are_more limit (x ∷ xs) y a e = (a.0, are_more limit xs y a.1 e)

pub is_element : (limit : ℕ) (c : ChildPlan) → (out-ChildPlan c).place < limit → NameNoNode (out-ChildPlan c).values → AreElements limit (elements_of (out-ChildPlan c).children) → IsElement limit (element_of c)
is_element limit c place values children = subst (IsElement limit) (sym (element_is c)) (place, values, children)

-- ---- the nodes that elements make

pub nodes_more : (table : List KindPlan) (xs : List ChildPlan) (y : ChildPlan) → elements_nodes table (elements_of (xs ++ y ∷ [])) ≡ elements_nodes table (elements_of xs) + element_nodes table (element_of y)
nodes_more table [] y = omega arith
nodes_more table (x ∷ xs) y = let e = nodes_more table xs y in omega (arith, e)

pub nodes_are : (table : List KindPlan) (c : ChildPlan) → element_nodes table (element_of c) ≡ made_by (slice_get table (out-ChildPlan c).place) + elements_nodes table (elements_of (out-ChildPlan c).children)
nodes_are table c = ap (element_nodes table) (element_is c)

-- one element more is counted
pub nodes_turn : (table : List KindPlan) (before after : List ChildPlan) (y : ChildPlan) (so_far nodes next : ℕ) → after ≡ before ++ y ∷ [] → nodes ≡ min too_many (so_far + elements_nodes table (elements_of before))
    → next ≡ min too_many (nodes + element_nodes table (element_of y)) → next ≡ min too_many (so_far + elements_nodes table (elements_of after))
nodes_turn table before after y so_far nodes next added was is =
    let e : elements_nodes table (elements_of after) ≡ elements_nodes table (elements_of (before ++ y ∷ [])) = ap (λ l. elements_nodes table (elements_of l)) added in
    let m = nodes_more table before y in
    omega (arith, e, m, was, is)

-- what an element makes with its kind
pub nodes_of : (table : List KindPlan) (c : ChildPlan) (so_far own kind nodes : ℕ) → kind ≡ made_by (slice_get table (out-ChildPlan c).place) → own ≡ min too_many (so_far + kind)
    → nodes ≡ min too_many (own + elements_nodes table (elements_of (out-ChildPlan c).children)) → nodes ≡ min too_many (so_far + element_nodes table (element_of c))
nodes_of table c so_far own kind nodes made with_kind with_children = let n = nodes_are table c in omega (arith, n, made, with_kind, with_children)

-- a plan says what the file says
pub child_planned : (kinds : List Kind) (names : List (List ℕ)) (e : ChildElement) (kind kind' : List ℕ) (places : NameTable) (place : ℕ) (values : List AttributeValue) (children : List ChildPlan)
    → kind ≡ folded (out-ChildElement e).kind → kind' ≡ folded (out-ChildElement e).kind → HasPlaces places names → place ≡ place_or_node (number_in places kind') → map given_of values ≡ flat_map (given_by kinds kind) (out-ChildElement e).attributes
    → map child_of children ≡ map (planned_child kinds names) (out-ChildElement e).children → planned place (map given_of values) (in_order (map child_of children)) ≡ planned_child kinds names e
child_planned kinds names e kind kind' places place values children folds folds' has at given inside =
    let name = folded (out-ChildElement e).kind in
    ap (λ p. planned p (map given_of values) (in_order (map child_of children))) (at ∙ ap place_or_node (has kind') ∙ ap (place_among names) folds')
    ∙ ap (λ v. planned (place_among names name) v (in_order (map child_of children))) (given ∙ ap (λ k. flat_map (given_by kinds k) (out-ChildElement e).attributes) folds)
    ∙ ap (λ l. planned (place_among names name) (flat_map (given_by kinds name) (out-ChildElement e).attributes) (in_order l)) inside
    ∙ sym (file_child_is kinds names e)

pub placed_below : (places : NameTable) (kind : List ℕ) (place limit : ℕ) → place ≡ place_or_node (number_in places kind) → 0 < limit → AreBelow limit places → place < limit
placed_below places kind place limit e some below = go (number_in places kind) (below kind) e
  where
    go : (o : Option ℕ) → ((p : ℕ) → o ≡ Some p → p < limit) → place ≡ place_or_node o → place < limit
    go None h e = omega arith
    go (Some p) h e = let b = h p refl in omega arith

pub is_element_as : (limit : ℕ) (c : ChildPlan) (place : ℕ) (values : List AttributeValue) (children : List ChildPlan) → (out-ChildPlan c).place ≡ place → (out-ChildPlan c).values ≡ values → (out-ChildPlan c).children ≡ children
    → place < limit → NameNoNode values → AreElements limit (elements_of children) → IsElement limit (element_of c)
is_element_as limit c place values children p v l below plain inside =
    is_element limit c (subst (λ n. n < limit) (sym p) below) (subst NameNoNode (sym v) plain) (subst (λ xs. AreElements limit (elements_of xs)) (sym l) inside)

pub child_as : (c : ChildPlan) (place : ℕ) (values : List AttributeValue) (children : List ChildPlan) → (out-ChildPlan c).place ≡ place → (out-ChildPlan c).values ≡ values → (out-ChildPlan c).children ≡ children
    → child_of c ≡ planned place (map given_of values) (in_order (map child_of children))
child_as c place values children p v l =
    child_is c
    ∙ ap (λ n. planned n (map given_of (out-ChildPlan c).values) (in_order (map child_of (out-ChildPlan c).children))) p
    ∙ ap (λ vs. planned place (map given_of vs) (in_order (map child_of (out-ChildPlan c).children))) v
    ∙ ap (λ xs. planned place (map given_of values) (in_order (map child_of xs))) l

pub file_turn : (kinds : List Kind) (names : List (List ℕ)) (before after : List ChildPlan) (c : ChildPlan) (es all : List ChildElement) (e : ChildElement) → after ≡ before ++ c ∷ [] → all ≡ es ++ e ∷ []
    → map child_of before ≡ map (planned_child kinds names) es → child_of c ≡ planned_child kinds names e → map child_of after ≡ map (planned_child kinds names) all
file_turn kinds names before after c es all e a m was is =
    ap (map child_of) a ∙ map-append child_of before (c ∷ []) ∙ ap (λ l. l ++ child_of c ∷ []) was ∙ ap (λ x. map (planned_child kinds names) es ++ x ∷ []) is
    ∙ sym (map-append (planned_child kinds names) es (e ∷ [])) ∙ ap (map (planned_child kinds names)) (sym m)
