-- One child element more.
use Rattle.std.proofs.Common.{◌≡◌, ℕ, ◌+◌, ◌<◌, List, [], ◌∷◌, ◌++◌, Option, Some, length, refl, sym, ap, subst, ◌∙◌, arith}
use Rattle.std.specs.Prelude.{slice_get}
use Rattle.field_types.specs.declared.plans.AttributeValue.{AttributeValue}
use Rattle.field_types.specs.declared.plans.ChildPlan.{ChildPlan, out-ChildPlan}
use Rattle.field_types.specs.declared.plans.ChildPlan.TheFolds as f
use Rattle.field_types.specs.declared.plans.KindPlan.{KindPlan}
use Rattle.field_types.specs.Elements.{Element, element, element_step, element_of}
use Rattle.field_types.specs.Plans.{elements_of, made_by, element_nodes, elements_nodes, NameNoNode, IsElement, AreElements}
use Rattle.node_tests.specs.Fits.{Fits}

element_out : (p : ChildPlan) → element_of p ≡ element (out-ChildPlan p).place (out-ChildPlan p).values (elements_of (out-ChildPlan p).children)
unfolding element_of
element_out p = f.fold_out-ChildPlan Element element_step p

are_more : (below : ℕ) (cs : List ChildPlan) (c : ChildPlan) → AreElements below (elements_of cs) → IsElement below (element_of c) → AreElements below (elements_of (cs ++ c ∷ []))
are_more below [] c h k = (k, tt)
are_more below (x ∷ cs) c h k = (h.0, are_more below cs c h.1 k)

count_more : (plans : List KindPlan) (cs : List ChildPlan) (c : ChildPlan) → elements_nodes plans (elements_of (cs ++ c ∷ [])) ≡ elements_nodes plans (elements_of cs) + element_nodes plans (element_of c)
count_more plans [] c = omega arith
count_more plans (x ∷ cs) c = let ih = count_more plans cs c in omega (arith, ih)

pub fits_more : (plans : List KindPlan) (cs inside new : List ChildPlan) (c : ChildPlan) (values : List AttributeValue) (place count inner all : ℕ) (p : KindPlan)
    → slice_get plans place ≡ Some p → place < length plans
    → new ≡ cs ++ c ∷ []
    → (out-ChildPlan c).place ≡ place → (out-ChildPlan c).values ≡ values → (out-ChildPlan c).children ≡ inside
    → all ≡ count + (inner + p.nodes)
    → NameNoNode values → Fits plans inside inner → Fits plans cs count → Fits plans new all
fits_more plans cs inside new c values place count inner all p there within grown place_is values_are inside_is sum named below so_far =
    let one : element_of c ≡ element place values (elements_of inside) =
    element_out c
    ∙ ap (λ k. element k (out-ChildPlan c).values (elements_of (out-ChildPlan c).children)) place_is
    ∙ ap (λ vs. element place vs (elements_of (out-ChildPlan c).children)) values_are
    ∙ ap (λ l. element place values (elements_of l)) inside_is in
    let made : made_by (slice_get plans place) ≡ p.nodes = ap made_by there in
    let nodes : element_nodes plans (element_of c) ≡ made_by (slice_get plans place) + elements_nodes plans (elements_of inside) = ap (element_nodes plans) one in
    let more = count_more plans cs c in
    let total : elements_nodes plans (elements_of new) ≡ elements_nodes plans (elements_of (cs ++ c ∷ [])) = ap (λ l. elements_nodes plans (elements_of l)) grown in
    let a : inner ≡ elements_nodes plans (elements_of inside) = below.count in
    let b : count ≡ elements_nodes plans (elements_of cs) = so_far.count in
    record {
      elements = subst (λ l. AreElements (length plans) (elements_of l)) (sym grown)
          (are_more (length plans) cs c so_far.elements (subst (IsElement (length plans)) (sym one) (within, named, below.elements)));
      count = omega (arith, made, nodes, more, total, a, b, sum);
    }
