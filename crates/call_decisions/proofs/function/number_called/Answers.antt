use Rattle.std.proofs.Common.{sym, ap, ◌∙◌, subst}
use Rattle.call_decisions.specs.Functions.{number_of}
use Rattle.call_decisions.specs.CallRows.{IsCallRow}
use Rattle.call_decisions.proofs.CallLaws.{call_row}
use Rattle.call_decisions.proofs.function.number_called.Goals as goal

pub returns-clause-row : goal.returns-clause-row
returns-clause-row c = subst (IsCallRow c.args.heap.now c.args.v.now) (sym (c.function_number.ensures ∙ ap number_of c.plain.ensures)) (call_row c.args.heap.now c.args.v.now)
