use Rattle.std.proofs.Common.{◌++◌, sym, ap, ◌∙◌}
use Rattle.field_types.specs.Plans.{elements_of}
use Rattle.node_tree.specs.Subtree.{of_elements}
use Rattle.node_tree.specs.Pending.{works, gives, to_make}
use Rattle.node_tree.proofs.Works.{kind_over}
use Rattle.node_tree.proofs.MakeSteps.{kind_on, kind_smaller}
use Rattle.node_tree.proofs.make.push_kind.Goals as goal

pub returns-in_default-get : goal.returns-in_default-get
returns-in_default-get c = kind_over c.args.plans.now c.args.parent c.in-Some.here c.loop-next.next _ _ c.in-Some.is (sym c.in_default-get.ensures.value) c.loop-next.invariant

pub loop-next-smaller : goal.loop-next-smaller
loop-next-smaller c = kind_smaller c.args.plans.now c.in-Some-get.ensures.table c.in-Some.here c.in-Some-get.plan.now c.loop-next.next c.in-Some.is (sym c.in-Some-get.ensures.value)

pub loop-next-preserved : goal.loop-next-preserved
loop-next-preserved c = kind_on c.args.plans.now c.in-Some-get.ensures.table c.args.parent c.in-Some.here c.in-Some-get.plan.now c.loop-next.next c.loop-next.pending.items c.push_elements.new.pending.items _ c.in-Some.is (sym c.in-Some-get.ensures.value) (c.in_ok-push_elements.ensures c.args.plans.now ∙ ap (λ l. works c.args.parent (of_elements (gives c.args.plans.now) (elements_of l)) ++ to_make c.args.plans.now c.loop-next.pending.items) c.as_slice.ensures) c.loop-next.invariant
