use Rattle.std.proofs.Common.{◌≡◌, fold, take}
use Rattle.channel_run.specs.FirstLines.{operand_number}
use Rattle.channel_run.specs.FirstLocals.{numbers_in}
use Rattle.channel_run.specs.FirstMeaning.{signed_sum}
use Rattle.channel_run.proofs.first_run.sum_number.Given as goal

abbrev pub invariant-loop-term : goal.invariant-loop-term
invariant-loop-term l = l.number ≡ fold (λ n term. signed_sum term.sign n (operand_number (numbers_in l.locals) term.operand)) (operand_number (numbers_in l.locals) l.sum.first) (take l.term-index l.term-items)
