use Rattle.std.proofs.Common.{◌≡◌, ◌+◌, ◌<◌, Some, length, sym, ap, arith}
use Rattle.std.specs.Prelude.{slice_get}
use Rattle.std.proofs.lemmas.Option.{slice_get_within}
use Rattle.field_types.specs.declared.plans.ChildPlan.{ChildPlan, ChildPlan-F}
use Rattle.field_types.specs.declared.plans.ChildPlan.TheViews.{out-roll-ChildPlan}
use Rattle.node_tests.proofs.Fitting.{fits_more}
use Rattle.node_tests.proofs.plans.add_child.Goals as goal

pub returns : goal.returns
returns c =
    let there : slice_get c.args.plans.now c.args.place ≡ Some c.in-Some.plan.now = sym c.in-Some.ensures.value in
    let within : c.args.place < length c.args.plans.now = slice_get_within c.args.plans.now c.args.place c.in-Some.plan.now there in
    let child : ChildPlan-F ChildPlan = record { place = c.args.place; values = c.args.values; children = c.args.inner.list } in
    let same = out-roll-ChildPlan child in
    fits_more c.args.plans.now c.args.children.now.list c.args.inner.list _ _ c.args.values c.args.place c.args.children.now.nodes c.args.inner.nodes _ c.in-Some.plan.now there within c.in_ok-push.ensures.ok (ap (λ x. x.place) same) (ap (λ x. x.values) same) (ap (λ x. x.children) same) (omega arith) c.requires.values c.requires.inner c.requires.children
