use Rattle.std.proofs.Common.{sym, subst}
use Rattle.call_decisions.specs.CallRows.{IsBuiltInRow}
use Rattle.call_decisions.proofs.CallLaws.{built_in_row}
use Rattle.call_decisions.proofs.built_in.built_in_called.Goals as goal

pub returns-clause-row : goal.returns-clause-row
returns-clause-row c = subst (IsBuiltInRow c.args.name.now) (sym c.decide.ensures) (built_in_row c.args.name.now)
