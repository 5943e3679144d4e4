use Rattle.std.proofs.Common.{◌≡◌, ◌∙◌, ◌+◌, ◌++◌, ◌∷◌, [], sym, ap, map, take, subst}
use Rattle.std.specs.List.{flat_map}
use Rattle.std.proofs.lemmas.List.{take_more}
use Rattle.chan_values.specs.Folded.{folded}
use Rattle.field_types.specs.Plans.{elements_of, AreElements}
use Rattle.field_types.specs.declared.plans.ChildPlan.{roll-ChildPlan, out-ChildPlan}
use Rattle.field_types.specs.declared.plans.ChildPlan.TheViews.{out-roll-ChildPlan}
use Rattle.field_plans.specs.Attributes.{given_by, given_of}
use Rattle.kind_plans.specs.Children.{child_of, planned_child}
use Rattle.kind_plans.proofs.Elements.{child_as, child_planned, is_element_as, placed_below, are_more, file_turn}
use Rattle.kind_plans.proofs.children.+children.Goals as goal

pub child_plan-returns-clause-plan : goal.child_plan-returns-clause-plan
child_plan-returns-clause-plan t c = λ names has.
    let kind = c.in_ok-kind.ensures ∙ ap folded (c.as_bytes.ensures.value ∙ c.as_str.ensures.bytes) in
    let plan = roll-ChildPlan (record { place = c.kind_place.result; values = c.in_ok-values.values; children = c.in_ok-children.children }) in
    let shape = out-roll-ChildPlan (record { place = c.kind_place.result; values = c.in_ok-values.values; children = c.in_ok-children.children }) in
    let p : (out-ChildPlan plan).place ≡ c.kind_place.result = ap (λ r. r.place) shape in
    let v : (out-ChildPlan plan).values ≡ c.in_ok-values.values = ap (λ r. r.values) shape in
    let l : (out-ChildPlan plan).children ≡ c.in_ok-children.children = ap (λ r. r.children) shape in
    child_as plan c.kind_place.result c.in_ok-values.values c.in_ok-children.children p v l
    ∙ child_planned c.args.table.now names c.args.element.now c.as_str-2.result.now c.as_str-3.result.now c.args.places.now c.kind_place.result c.in_ok-values.values c.in_ok-children.children
    (c.as_str-2.ensures.bytes ∙ kind) (c.as_str-3.ensures.bytes ∙ kind) has c.kind_place.ensures
    (subst (λ l. map given_of c.in_ok-values.values ≡ flat_map (given_by c.args.table.now c.as_str-2.result.now) l) c.as_slice.ensures c.in_ok-values.ensures.values)
    (subst (λ l. map child_of c.in_ok-children.children ≡ map (planned_child c.args.table.now names) l) c.as_slice-2.ensures (c.in_ok-children.ensures.plans names has))

pub child_plan-returns-clause-below : goal.child_plan-returns-clause-below
child_plan-returns-clause-below t c = λ limit some below.
    let plan = roll-ChildPlan (record { place = c.kind_place.result; values = c.in_ok-values.values; children = c.in_ok-children.children }) in
    let shape = out-roll-ChildPlan (record { place = c.kind_place.result; values = c.in_ok-values.values; children = c.in_ok-children.children }) in
    let p : (out-ChildPlan plan).place ≡ c.kind_place.result = ap (λ r. r.place) shape in
    let v : (out-ChildPlan plan).values ≡ c.in_ok-values.values = ap (λ r. r.values) shape in
    let l : (out-ChildPlan plan).children ≡ c.in_ok-children.children = ap (λ r. r.children) shape in
    is_element_as limit plan c.kind_place.result c.in_ok-values.values c.in_ok-children.children p v l
    (placed_below c.args.places.now c.as_str-3.result.now c.kind_place.result limit c.kind_place.ensures some below) c.in_ok-values.ensures.nodes (c.in_ok-children.ensures.below limit some below)

pub child_plans-loop-element-preserved : goal.child_plans-loop-element-preserved
child_plans-loop-element-preserved t c =
    let i = c.loop-element.element-index in let all = c.args.elements.now in
    let more = take_more all i c.element-item.result c.loop-element-test.true ∙ ap (λ x. take i all ++ x ∷ []) (sym c.element-item.is) in
    record {
      plans = λ names has.
          file_turn c.args.table.now names c.loop-element.plans c.push_child.new.plans c.in_ok-plan.plan (take i all) (take (i + 1) all) c.element-item.result c.in_ok-push_child.ensures more
          (c.loop-element.invariant.plans names has) (c.in_ok-plan.ensures.plan names has);
      below = λ limit some below.
          subst (λ xs. AreElements limit (elements_of xs)) (sym c.in_ok-push_child.ensures)
          (are_more limit c.loop-element.plans c.in_ok-plan.plan (c.loop-element.invariant.below limit some below) (c.in_ok-plan.ensures.below limit some below));
    }
