-- A making links nodes of one owner alone, and the fields of the new nodes name no node.
use Rattle.std.proofs.Common.{◌≡◌, ◌≢◌, ℕ, zero, suc, false, ◌⊎◌, inl, inr, List, [], ◌∷◌, ◌++◌, Option, Some, None, map, take, length, refl, sym, ap, subst, ◌∙◌}
use Rattle.std.specs.Prelude.{◌==◌, slice_get, option_map}
use Rattle.std.specs.List.{AllByRecursion, flat_map}
use Rattle.chan_values.specs.View.{tree_of}
use Rattle.field_types.specs.NamedNodes.{nodes_in}
use Rattle.field_types.specs.Words.{is_alike}
use Rattle.field_types.specs.declared.plans.AttributeValue.{AttributeValue}
use Rattle.field_types.specs.declared.plans.FieldPlan.{FieldPlan}
use Rattle.field_types.specs.declared.plans.KindPlan.{KindPlan}
use Rattle.field_types.specs.Elements.{Element, element, Elements, none as no_element, more as more_elements}
use Rattle.field_types.specs.Plans.{elements_of, NameNoNode, IsElement, AreElements, IsPlanTable}
use Rattle.node_tree.specs.declared.field.Field.{Field}
use Rattle.node_tree.specs.declared.node.Node.{Node}
use Rattle.node_tree.specs.Nodes.{node_at, owner_of, changed, with_node}
use Rattle.node_tree.specs.Subtree.{Subtrees, none, more, joined, of_element, of_elements}
use Rattle.node_tree.specs.Making.{base_in, elements_in, opening_field, own_in, own_fields, lineage, kind_fields, with_attributes, children_given, made_node, made}
use Rattle.node_tree.specs.Reach.{kin, named_by}
use Rattle.node_tree.proofs.Places.{length_changed, at_same, at_other, read_with}
use Rattle.node_tree.proofs.Kin.{same_or}
use Rattle.node_tree.proofs.MadeSound.{get_but_last}
use Rattle.node_tree.proofs.Numbered.{with_more, get_front, get_last, owner_some, Have, AllHave, made_keeps}
use Rattle.node_tree.proofs.Bounds.{all_map, all_append, kin_children, named_value, Bound, Bounded}

some_same : {A : Type 0} {x y : A} → Some x ≡ Some y → x ≡ y
some_same e = cc

-- ---- attributes name no node

have_joined : (ts us : Subtrees) → AllHave NameNoNode ts → AllHave NameNoNode us → AllHave NameNoNode (joined ts us)
have_joined none us h k = k
have_joined (more t ts) us h k = (h.0, have_joined ts us h.1 k)

mutual
  have_element : (below : ℕ) (f : ℕ → Subtrees) → ((place : ℕ) → AllHave NameNoNode (f place)) → (e : Element) → IsElement below e → Have NameNoNode (of_element f e)
  have_element below f has_all (element place values children) h = (h.1, have_joined (f place) (of_elements f children) (has_all place) (have_elements below f has_all children h.2))

  have_elements : (below : ℕ) (f : ℕ → Subtrees) → ((place : ℕ) → AllHave NameNoNode (f place)) → (es : Elements) → AreElements below es → AllHave NameNoNode (of_elements f es)
  have_elements below f has_all no_element h = tt
  have_elements below f has_all (more_elements e es) h = (have_element below f has_all e h.0, have_elements below f has_all es h.1)

have_at : (plans : List KindPlan) → IsPlanTable plans → (k place : ℕ) → ((o : Option ℕ) → AllHave NameNoNode (children_given k plans o)) → (o : Option KindPlan) → slice_get plans place ≡ o → AllHave NameNoNode (joined (children_given k plans (base_in o)) (of_elements (λ q. children_given k plans (Some q)) (elements_in o)))
have_at plans table k place ih None e = have_joined (children_given k plans None) none (ih None) tt
have_at plans table k place ih (Some p) e = have_joined (children_given k plans p.base) (of_elements (λ q. children_given k plans (Some q)) (elements_of p.children)) (ih p.base) (have_elements (length (take place plans)) (λ q. children_given k plans (Some q)) (λ q. ih (Some q)) (elements_of p.children) (table.each place p e).elements)

pub have_given : (plans : List KindPlan) → IsPlanTable plans → (k : ℕ) (o : Option ℕ) → AllHave NameNoNode (children_given k plans o)
have_given plans table zero o = tt
have_given plans table (suc k) None = tt
have_given plans table (suc k) (Some place) = have_at plans table k place (have_given plans table k) (slice_get plans place) refl

-- ---- the fields of a new node name no node

named_append : (P : ℕ → Type 0) (xs ys : List Field) → AllByRecursion P (named_by xs) → AllByRecursion P (named_by ys) → AllByRecursion P (named_by (xs ++ ys))
named_append P [] ys h k = k
named_append P (x ∷ xs) ys h k = all_append P (nodes_in x.value) (named_by (xs ++ ys)) (left (nodes_in x.value) (named_by xs) h) (named_append P xs ys (right (nodes_in x.value) (named_by xs) h) k)
  where
    left : (ks ls : List ℕ) → AllByRecursion P (ks ++ ls) → AllByRecursion P ks
    left [] ls h = tt
    left (k ∷ ks) ls h = (h.0, left ks ls h.1)

    right : (ks ls : List ℕ) → AllByRecursion P (ks ++ ls) → AllByRecursion P ls
    right [] ls h = h
    right (k ∷ ks) ls h = right ks ls h.1

none_named : (P : ℕ → Type 0) (ks : List ℕ) → ks ≡ [] → AllByRecursion P ks
none_named P ks e = subst (AllByRecursion P) (sym e) tt

openings_name : (P : ℕ → Type 0) (fields : List FieldPlan) → AllByRecursion (λ f. nodes_in (tree_of f.opening) ≡ []) fields → AllByRecursion P (named_by (map opening_field fields))
openings_name P [] h = tt
openings_name P (f ∷ fields) h = all_append P (nodes_in (tree_of f.opening)) (named_by (map opening_field fields)) (none_named P (nodes_in (tree_of f.opening)) h.0) (openings_name P fields h.1)

own_name : (P : ℕ → Type 0) (plans : List KindPlan) → IsPlanTable plans → (place : ℕ) (o : Option KindPlan) → slice_get plans place ≡ o → AllByRecursion P (named_by (own_in o))
own_name P plans table place None e = tt
own_name P plans table place (Some p) e = openings_name P p.fields (table.each place p e).openings

kinds_name : (P : ℕ → Type 0) (plans : List KindPlan) → IsPlanTable plans → (places : List ℕ) → AllByRecursion P (named_by (flat_map (own_fields plans) places))
kinds_name P plans table [] = tt
kinds_name P plans table (q ∷ qs) = named_append P (own_fields plans q) (flat_map (own_fields plans) qs) (own_name P plans table q (slice_get plans q) refl) (kinds_name P plans table qs)

attributes_name : (P : ℕ → Type 0) (values : List AttributeValue) → NameNoNode values → (fields : List Field) → AllByRecursion P (named_by fields) → AllByRecursion P (named_by (with_attributes values fields))
attributes_name P [] v fields h = h
attributes_name P (a ∷ values) v fields h =
    attributes_name P values v.1 _ (named_value P (λ f. is_alike f.id a.field) (λ f. record f { value = tree_of a.value }) (tree_of a.value) (λ f. refl) fields (none_named P (nodes_in (tree_of a.value)) v.0) h)

pub new_names : (P : ℕ → Type 0) (plans : List KindPlan) → IsPlanTable plans → (owner : ℕ) (parent : Option ℕ) (place : ℕ) (values : List AttributeValue) (ks : List ℕ) → NameNoNode values → AllByRecursion P (named_by (made_node plans owner parent place values ks).fields)
new_names P plans table owner parent place values ks v = attributes_name P values v (kind_fields plans place) (kinds_name P plans table (lineage (length plans) plans (Some place)))

-- ---- owners

more_owners : (nodes : List Node) (y : Node) (n b : ℕ) → owner_of nodes n ≡ Some b → owner_of (nodes ++ y ∷ []) n ≡ Some b
more_owners nodes y zero b e = absurd cc
more_owners nodes y (suc i) b e = let x = owner_some nodes i b e in ap (option_map (λ z. z.owner)) (get_front nodes (y ∷ []) i x.0 x.1) ∙ ap Some x.2

module _ (K F : ℕ → Option ℕ → Type 0) (no_kin : (a : ℕ) (o : Option ℕ) → K a None → K a o) (no_field : (a : ℕ) (o : Option ℕ) → F a None → F a o) where
  grown : (G : ℕ → Option ℕ → Type 0) → ((a : ℕ) (o : Option ℕ) → G a None → G a o) → (a : ℕ) (o p : Option ℕ) → ((b : ℕ) → o ≡ Some b → p ≡ Some b) → G a o → G a p
  grown G none_too a None p stays g = none_too a p g
  grown G none_too a (Some b) p stays g = subst (G a) (sym (stays b refl)) g

  -- owners that were there stay
  bound_more : (before after : List Node) → ((n b : ℕ) → owner_of before n ≡ Some b → owner_of after n ≡ Some b) → (x : Node) → Bound K F before x → Bound K F after x
  bound_more before after stays x h = record {
    kin_of = all_map (λ n. K x.owner (owner_of before n)) (λ n. K x.owner (owner_of after n)) (λ n. grown K no_kin x.owner (owner_of before n) (owner_of after n) (stays n)) (kin x) h.kin_of;
    fields = all_map (λ n. F x.owner (owner_of before n)) (λ n. F x.owner (owner_of after n)) (λ n. grown F no_field x.owner (owner_of before n) (owner_of after n) (stays n)) (named_by x.fields) h.fields;
  }

  -- a node more behind the others
  bounded_last : (nodes after : List Node) (y : Node) → after ≡ nodes ++ y ∷ [] → ((x : Node) (i : ℕ) → slice_get nodes i ≡ Some x → Bound K F after x) → Bound K F after y → Bounded K F after
  bounded_last nodes after y e old new zero x f = absurd cc
  bounded_last nodes after y e old new (suc i) x f = go (same_or i (length nodes))
    where
      go : (i ≡ length nodes) ⊎ ((i ≢ length nodes) × ((i == length nodes) ≡ false)) → Bound K F after x
      go (inl same) = subst (Bound K F after) (some_same (sym (ap (λ j. slice_get (nodes ++ y ∷ []) j) same ∙ get_last nodes y) ∙ ap (λ l. slice_get l i) (sym e) ∙ f)) new
      go (inr ne) = old x i (sym (get_but_last nodes y i ne.0) ∙ ap (λ l. slice_get l i) (sym e) ∙ f)

  module _ (plans : List KindPlan) (table : IsPlanTable plans) (owner : ℕ) (own_kin : K owner (Some owner)) where
    pub root_bounded : (nodes : List Node) (place : ℕ) → Bounded K F nodes → Bounded K F (nodes ++ made_node plans owner None place [] [] ∷ [])
    root_bounded nodes place h =
        let y : Node = made_node plans owner None place [] [] in
        bounded_last nodes (nodes ++ y ∷ []) y refl
        (λ x i e. bound_more nodes (nodes ++ y ∷ []) (more_owners nodes y) x (h (suc i) x e))
        (record { kin_of = tt; fields = new_names (λ n. F owner (owner_of (nodes ++ y ∷ []) n)) plans table owner None place [] [] tt })

    child_bounded : (nodes : List Node) (p place : ℕ) (values : List AttributeValue) → NameNoNode values → Bounded K F nodes → owner_of nodes (suc p) ≡ Some owner → Bounded K F (changed (with_more (suc (length nodes) ∷ [])) nodes p ++ made_node plans owner (Some (suc p)) place values [] ∷ [])
    child_bounded nodes p place values v h own =
        let c : ℕ = suc (length nodes) in
        let f = with_more (c ∷ []) in
        let y : Node = made_node plans owner (Some (suc p)) place values [] in
        let put : List Node = with_node f nodes (suc p) in
        let after : List Node = put ++ y ∷ [] in
        let stays : (n b : ℕ) → owner_of nodes n ≡ Some b → owner_of after n ≡ Some b = (λ n b e. more_owners put y n b (read_with (option_map (λ x. x.owner)) f (λ x. refl) nodes (suc p) n ∙ e)) in
        let last : owner_of after c ≡ Some owner = ap (λ i. owner_of after (suc i)) (sym (length_changed f nodes p)) ∙ ap (option_map (λ x. x.owner)) (get_last put y) in
        bounded_last put after y refl
        (λ x i e. old after last stays x i e (same_or (suc p) (suc i)))
        (record { kin_of = (subst (K owner) (sym (stays (suc p) owner own)) own_kin, tt); fields = new_names (λ n. F owner (owner_of after n)) plans table owner (Some (suc p)) place values [] v })
      where
        put_in : (x : Node) (after : List Node) → x.owner ≡ owner → owner_of after (suc (length nodes)) ≡ Some owner → Bound K F after x → Bound K F after (with_more (suc (length nodes) ∷ []) x)
        put_in x after is last b = record {
          kin_of = kin_children (λ n. K x.owner (owner_of after n)) x.parent x.children (x.children ++ suc (length nodes) ∷ []) (λ h. all_append (λ n. K x.owner (owner_of after n)) x.children (suc (length nodes) ∷ []) h (subst (λ a. K a (owner_of after (suc (length nodes)))) (sym is) (subst (K owner) (sym last) own_kin), tt)) b.kin_of;
          fields = b.fields;
        }

        old : (after : List Node) → owner_of after (suc (length nodes)) ≡ Some owner → ((n b : ℕ) → owner_of nodes n ≡ Some b → owner_of after n ≡ Some b) → (x : Node) (i : ℕ) → slice_get (with_node (with_more (suc (length nodes) ∷ [])) nodes (suc p)) i ≡ Some x → (suc p ≡ suc i) ⊎ ((suc p ≢ suc i) × ((suc p == suc i) ≡ false)) → Bound K F after x
        old after last stays x i e (inl same) =
            let z = owner_some nodes p owner own in
            let is : with_more (suc (length nodes) ∷ []) z.0 ≡ x = some_same (sym (at_same (with_more (suc (length nodes) ∷ [])) nodes (suc p) z.0 z.1) ∙ ap (node_at (with_node (with_more (suc (length nodes) ∷ [])) nodes (suc p))) same ∙ e) in
            subst (Bound K F after) is (put_in z.0 after z.2 last (bound_more nodes after stays z.0 (h (suc p) z.0 z.1)))
        old after last stays x i e (inr ne) = bound_more nodes after stays x (h (suc i) x (sym (at_other (with_more (suc (length nodes) ∷ [])) nodes (suc p) (suc i) ne.0) ∙ e))

    pub bounded_made : (nodes : List Node) (place : ℕ) → Bounded K F nodes → Bounded K F (made nodes plans place owner)
    bounded_made nodes place h = made_keeps plans owner NameNoNode (Bounded K F) child_bounded root_bounded nodes place (have_given plans table (length plans) (Some place)) h
