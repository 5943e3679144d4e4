use Rattle.std.proofs.Common.{◌≡◌, length, option_copied, sym, ap, ◌∙◌, arith}
use Rattle.frame_stack.specs.Operand.{values}
use Rattle.frame_stack.specs.Frame.{operands_of}
use Rattle.heap_meaning.proofs.Lists.{map_length}
use Rattle.frame_stack.specs.Operand.{value_of}
use Rattle.loop_instructions.specs.Numbers.{number_in, number_at}
use Rattle.loop_instructions.proofs.Finding.{operand_placed}
use Rattle.loop_instructions.proofs.reading.operand_number.Goals as goal

pub returns-in-Some : goal.returns-in-Some
returns-in-Some c =
    let many : length (values (operands_of c.args.frames.now)) ≡ length (operands_of c.args.frames.now) = map_length value_of (operands_of c.args.frames.now) in
    c.number_of.ensures ∙ ap number_in c.plain.ensures
    ∙ ap number_at (sym (ap option_copied c.in-Some.is) ∙ c.first.ensures.value ∙ operand_placed c.last.result.now (values (operands_of c.args.frames.now)) c.args.at c.last.ensures (omega (arith, c.requires.there)))
