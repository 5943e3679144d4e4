use Rattle.kind_plans.proofs.Filling.{filled_more}
use Rattle.kind_plans.proofs.table.add_component.Goals as goal

pub returns : goal.returns
returns c = λ before has.
    filled_more c.args.kinds.now before c.args.component.now c.args.places.now c.add_place.new.places c.args.table.now c.push_component.new.table c.len-place.result c.len-place.ensures
    (c.in_ok-push_component.ensures before has.places) c.in_ok-add_place.ensures has
