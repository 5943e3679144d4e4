use Rattle.std.proofs.Common.{sym, subst}
use Rattle.call_decisions.specs.MemberRows.{IsMemberRow}
use Rattle.call_decisions.proofs.MemberLaws.{member_row}
use Rattle.call_decisions.proofs.member.member_called.Goals as goal

pub returns-clause-row : goal.returns-clause-row
returns-clause-row c = subst (IsMemberRow c.args.heap.now c.args.v.now c.args.name.now) (sym c.decide.ensures) (member_row c.args.heap.now c.args.v.now c.args.name.now)
