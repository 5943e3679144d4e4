use Rattle.std.proofs.Common.{◌∙◌, sym, ap}
use Rattle.kind_order.specs.Walk.{next_unmarked}
use Rattle.kind_order.proofs.Marks.{off_below, next_is}
use Rattle.kind_order.proofs.walk.go_on.Goals as goal

pub begin-requires : goal.begin-requires
begin-requires c =
    let marks = c.args.marks.now.items in
    let left = c.args.visit.left.now in
    off_below marks c.in-Some.place (next_is marks left c.in-Some.place c.in-Some.left.now (sym (c.in-Some.ensures ∙ ap (λ m. next_unmarked m left) c.as_slice.ensures.value))).off
