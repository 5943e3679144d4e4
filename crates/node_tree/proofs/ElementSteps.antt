-- The node of one element, as a step of a making.
use Rattle.std.proofs.Common.{◌≡◌, ℕ, suc, ◌+◌, ◌<◌, List, [], ◌∷◌, ◌++◌, Some, length, set, get_or, refl, sym, ap, subst, ◌∙◌, append_assoc, length-append, arith}
use Rattle.std.proofs.lemmas.List.{length-set}
use Rattle.std.proofs.lemmas.Option.{slice_get_read}
use Rattle.field_types.specs.declared.plans.ChildPlan.{ChildPlan, out-ChildPlan}
use Rattle.field_types.specs.declared.plans.ChildPlan.TheFolds as f
use Rattle.field_types.specs.declared.plans.AttributeValue.{AttributeValue}
use Rattle.field_types.specs.declared.plans.KindPlan.{KindPlan}
use Rattle.field_types.specs.Elements.{Element, element, element_step, element_of}
use Rattle.field_types.specs.Plans.{elements_of}
use Rattle.node_tree.specs.declared.node.Node.{Node}
use Rattle.node_tree.specs.declared.make.PendingElement.{PendingElement}
use Rattle.node_tree.specs.Nodes.{changed}
use Rattle.node_tree.specs.Subtree.{Subtrees, joined, of_element, of_elements}
use Rattle.node_tree.specs.Making.{made_node}
use Rattle.node_tree.specs.Pending.{works, gives, work_of, to_make, finished, HaveParents}
use Rattle.node_tree.proofs.Places.{set_changed}
use Rattle.node_tree.proofs.Works.{works_joined}
use Rattle.node_tree.proofs.Numbered.{with_more, one_work, element_made, parents_more, parents_works}

element_out : (p : ChildPlan) → element_of p ≡ element (out-ChildPlan p).place (out-ChildPlan p).values (elements_of (out-ChildPlan p).children)
unfolding element_of
element_out p = f.fold_out-ChildPlan Element element_step p

pub element_step_is : (plans : List KindPlan) (owner first : ℕ) (nodes new : List Node) (before between after : List PendingElement) (next : PendingElement) (x : Node) (ks : List ℕ) (node : Node) (values : List AttributeValue) (elements_in_it : List ChildPlan) (number parent at : ℕ)
    → ks ≡ x.children ++ number ∷ []
    → node ≡ made_node plans owner (Some parent) (out-ChildPlan next.element.now).place values []
    → new ≡ set nodes next.parent (record x { children = ks }) ++ node ∷ []
    → values ≡ (out-ChildPlan next.element.now).values
    → elements_in_it ≡ (out-ChildPlan next.element.now).children
    → to_make plans between ≡ works at (of_elements (gives plans) (elements_of elements_in_it)) ++ to_make plans before
    → to_make plans after ≡ works at (gives plans (out-ChildPlan next.element.now).place) ++ to_make plans between
    → x ≡ get_or nodes next.parent x → next.parent < length nodes
    → at ≡ length nodes → number ≡ first + length nodes → parent ≡ first + next.parent
    → finished plans owner first new (to_make plans after) ≡ finished plans owner first nodes (work_of plans next ∷ to_make plans before)
element_step_is plans owner first nodes new before between after next x ks node values elements_in_it number parent at last is grown values_are elements_are inner outer read within here numbered up =
    let place : ℕ = (out-ChildPlan next.element.now).place in
    let own : Subtrees = of_elements (gives plans) (elements_of (out-ChildPlan next.element.now).children) in
    let n : ℕ = first + length nodes in
    let put : set nodes next.parent (record x { children = ks }) ≡ changed (with_more (n ∷ [])) nodes next.parent =
    ap (λ l. set nodes next.parent (let y : Node = record x { children = l } in y)) (last ∙ ap (λ k. x.children ++ k ∷ []) numbered)
    ∙ set_changed (with_more (n ∷ [])) nodes next.parent x (slice_get_read nodes (length nodes) next.parent x refl within read) in
    let one : node ≡ made_node plans owner (Some (first + next.parent)) place (out-ChildPlan next.element.now).values [] =
    is ∙ ap (λ q. made_node plans owner (Some q) place values []) up ∙ ap (λ vs. made_node plans owner (Some (first + next.parent)) place vs []) values_are in
    let left : to_make plans after ≡ works (length nodes) (joined (gives plans place) own) ++ to_make plans before =
    outer
    ∙ ap (λ l. works at (gives plans place) ++ l) (inner ∙ ap (λ es. works at (of_elements (gives plans) (elements_of es)) ++ to_make plans before) elements_are)
    ∙ sym (append_assoc (works at (gives plans place)) (works at own) (to_make plans before))
    ∙ ap (λ l. l ++ to_make plans before) (sym (works_joined at (gives plans place) own))
    ∙ ap (λ k. works k (joined (gives plans place) own) ++ to_make plans before) here in
    ap (λ l. finished plans owner first l (to_make plans after)) (grown ∙ ap (λ l. l ++ node ∷ []) put ∙ ap (λ y. changed (with_more (n ∷ [])) nodes next.parent ++ y ∷ []) one)
    ∙ ap (finished plans owner first (changed (with_more (n ∷ [])) nodes next.parent ++ made_node plans owner (Some (first + next.parent)) place (out-ChildPlan next.element.now).values [] ∷ [])) left
    ∙ element_made plans owner first nodes next.parent place (out-ChildPlan next.element.now).values (joined (gives plans place) own) (to_make plans before)
    ∙ ap (λ e. finished plans owner first nodes (one_work next.parent (of_element (gives plans) e) ∷ to_make plans before)) (sym (element_out next.element.now))

pub element_parents : (plans : List KindPlan) (nodes new : List Node) (before between after : List PendingElement) (next : PendingElement) (x : Node) (ks : List ℕ) (node : Node) (elements_in_it : List ChildPlan) (at : ℕ)
    → new ≡ set nodes next.parent (record x { children = ks }) ++ node ∷ []
    → to_make plans between ≡ works at (of_elements (gives plans) (elements_of elements_in_it)) ++ to_make plans before
    → to_make plans after ≡ works at (gives plans (out-ChildPlan next.element.now).place) ++ to_make plans between
    → at ≡ length nodes → HaveParents nodes (to_make plans before) → HaveParents new (to_make plans after)
element_parents plans nodes new before between after next x ks node elements_in_it at grown inner outer here h =
    let place : ℕ = (out-ChildPlan next.element.now).place in
    let own : Subtrees = of_elements (gives plans) (elements_of elements_in_it) in
    let put : List Node = set nodes next.parent (record x { children = ks }) in
    let all = ap length grown in
    let more = length-append put (node ∷ []) in
    let same = length-set nodes next.parent (let y : Node = record x { children = ks } in y) in
    let size : length new ≡ suc (length nodes) = omega (arith, all, more, same) in
    let within : at < length new = omega (arith, here, size) in
    subst (HaveParents new) (sym (outer ∙ ap (λ l. works at (gives plans place) ++ l) inner))
    (parents_works new at (gives plans place) (works at own ++ to_make plans before) within
    (parents_works new at own (to_make plans before) within (parents_more nodes new (to_make plans before) (omega (arith, size)) h)))
