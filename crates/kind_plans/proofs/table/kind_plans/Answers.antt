use Rattle.std.proofs.Common.{◌++◌, take, get_or, sym, subst, arith}
use Rattle.std.specs.Prelude.{slice_get}
use Rattle.std.specs.Option.{option_to_list}
use Rattle.folder_rules.specs.Kinds.{all_kinds}
use Rattle.kind_plans.specs.Filling.{HasPlansOf}
use Rattle.kind_plans.specs.Plans.{components_at}
use Rattle.kind_plans.proofs.Filling.{at_more, filled_below, filled_length}
use Rattle.kind_plans.proofs.table.kind_plans.Goals as goal

pub add_at-requires-clause-few : goal.add_at-requires-clause-few
add_at-requires-clause-few c =
    let l = filled_length (all_kinds c.args.components.now) c.args.components.now c.args.order.now c.loop-at.at-index c.loop-at.places c.loop-at.table c.loop-at.invariant in
    omega (arith, l.1, c.loop-at-test.true, c.requires.few)

pub add_at-requires-clause-filled : goal.add_at-requires-clause-filled
add_at-requires-clause-filled c =
    let l = filled_length (all_kinds c.args.components.now) c.args.components.now c.args.order.now c.loop-at.at-index c.loop-at.places c.loop-at.table c.loop-at.invariant in
    omega (arith, l.0)

pub add_at-requires-clause-below : goal.add_at-requires-clause-below
add_at-requires-clause-below c = filled_below (all_kinds c.args.components.now) (components_at c.args.components.now (take c.loop-at.at-index c.args.order.now)) c.loop-at.places c.loop-at.table c.loop-at.invariant

pub loop-at-preserved : goal.loop-at-preserved
loop-at-preserved c =
    let cs = c.args.components.now in let order = c.args.order.now in let i = c.loop-at.at-index in
    let before = components_at cs (take i order) in
    let has = subst (λ k. HasPlansOf k before c.loop-at.places c.loop-at.table) (sym c.in_ok-kinds.ensures) c.loop-at.invariant in
    let after = c.in_ok-add_at.ensures before has in
    subst (λ l. HasPlansOf (all_kinds cs) l c.add_at.new.places c.add_at.new.table) (sym (at_more cs order i 0 c.loop-at-test.true))
    (subst (λ k. HasPlansOf k (before ++ option_to_list (slice_get cs (get_or order i 0))) c.add_at.new.places c.add_at.new.table) c.in_ok-kinds.ensures after)
