use Rattle.std.proofs.Common.{◌≡◌, ◌∙◌, false, get_or, ap}
use Rattle.component_cycles.proofs.Searches.{start_is_reached}
use Rattle.component_cycles.proofs.Upward.{does_not_come_back}
use Rattle.component_cycles.proofs.cycles.is_in_cycle.Goals as goal

pub returns-then-not-stays : goal.returns-then-not-stays
returns-then-not-stays c = does_not_come_back c.args.graph.now c.args.numbers.now c.requires c.args.place (c.stays.ensures c.if-not-stays.true)

pub returns : goal.returns
returns c = start_is_reached c.args.graph.now c.args.place c.in_ok-marks.marks.items c.in_ok-marks.ensures c.is_marked.result (c.is_marked.ensures ∙ ap (λ l. get_or l c.args.place false) c.as_slice.ensures.value)
