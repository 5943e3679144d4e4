use Rattle.std.proofs.Common.{sym, subst}
use Rattle.component_cycles.specs.Graph.{Ascends}
use Rattle.component_cycles.proofs.Upward.{no_numbers}
use Rattle.component_cycles.proofs.numbers.ascending_numbers.Goals as goal

pub returns-then-ascends : goal.returns-then-ascends
returns-then-ascends c = subst (Ascends c.args.graph.now) c.as_slice.ensures.value (c.ascends.ensures c.if-ascends.true)

pub returns : goal.returns
returns c = subst (Ascends c.args.graph.now) (sym c.new.ensures.items) (no_numbers c.args.graph.now)
