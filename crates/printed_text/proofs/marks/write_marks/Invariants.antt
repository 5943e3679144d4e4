use Rattle.printed_text.proofs.MarkLaws.{Written}
use Rattle.printed_text.proofs.marks.write_marks.Given as goal

abbrev pub invariant-loop-mark : goal.invariant-loop-mark
invariant-loop-mark l = Written l.heap l.marks l.values l.fn.out l.mark-index l.next l.out
