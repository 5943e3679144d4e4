use Rattle.std.proofs.Common.{sym, subst}
use Rattle.ordered_names.specs.Values.{IsAscending}
use Rattle.ordered_names.proofs.Search.{none_ascend}
use Rattle.ordered_names.proofs.names.OrderedNames.empty.Goals as goal

pub new-requires-2 : goal.new-requires-2
new-requires-2 g c = subst (IsAscending {V = g.row.V.Denot}) (sym c.new.ensures.items) (none_ascend g.row.V.Denot)
