use Rattle.std.proofs.Common.{take, drop}
use Rattle.printed_text.specs.declared.printing.Printing.TheVariants as p
use Rattle.print_instruction.proofs.PrintRow.{text_done, error_done, of_marks}
use Rattle.print_instruction.proofs.instruction.print.Goals as goal

pub returns-in-Raises-clause-ok : goal.returns-in-Raises-clause-ok
returns-in-Raises-clause-ok c =
    error_done c.args.heap.now c.args.frames.now c.args.function.now c.args.first c.args.count c.args.values c.last.result.now c.in-Raises.error c.requires.there c.last.ensures
    (of_marks c.args.heap.now c.marks_of-marks.result.now (take c.args.count (drop c.args.first c.args.function.now.marks)) c.last.result.now c.in_ok-printing.printing (p.Raises c.in-Raises.error) c.marks_of-marks.ensures c.in-Raises.is c.in_ok-printing.ensures)

pub returns-in-Printed-clause-ok : goal.returns-in-Printed-clause-ok
returns-in-Printed-clause-ok c =
    text_done c.args.heap.now c.drop_to.new.heap c.args.frames.now c.drop_to.new.frames c.args.function.now c.args.first c.args.count c.args.values c.place_behind-next.result c.last.result.now c.in-Printed.text c.requires.there c.last.ensures
    (of_marks c.args.heap.now c.marks_of-marks.result.now (take c.args.count (drop c.args.first c.args.function.now.marks)) c.last.result.now c.in_ok-printing.printing (p.Printed c.in-Printed.text) c.marks_of-marks.ensures c.in-Printed.is c.in_ok-printing.ensures)
    c.place_behind-next.ensures c.drop_to.ensures.carries c.drop_to.ensures.frames
