use Rattle.brs_code.specs.declared.instr.Instr.TheVariants as i
use Rattle.frame_stack.specs.declared.header.Landing.TheVariants as d
use Rattle.instruction_effects.specs.Effects.{Runs}
use Rattle.member_accesses.specs.Rows.{member_read_row}
use Rattle.moving_instructions.proofs.Going.{if_ok_then}
use Rattle.member_instructions.proofs.Rows.{HasText, member_is}
use Rattle.member_instructions.proofs.Doing.{so_long, runs_knows, does}
use Rattle.member_instructions.proofs.members.member.Goals as goal

pub read_member-requires-clause-operand : goal.read_member-requires-clause-operand
read_member-requires-clause-operand c = so_long c.last.result.now c.args.frames.now 1 c.last.ensures c.requires.operand

pub returns-clause-ok : goal.returns-clause-ok
returns-clause-ok c =
    if_ok_then c.settle.result _ _
    (λ effect settled.
    does (Runs c.args.function.now c.args.frames.now) (HasText c.args.n c.text_at-name.result.now) c.args.heap.now c.read_member.new.heap c.settle.new.heap c.args.frames.now c.settle.new.frames (i.Member c.args.n) 1 1 c.args.line d.Operands (member_read_row c.text_at-name.result.now)
    c.last.result.now c.in_ok-reached.reached effect c.requires.there c.requires.operand c.last.ensures c.in_ok-reached.ensures.answer (member_is c.args.n c.text_at-name.result.now)
    (λ x e. runs_knows c.args.function.now c.args.frames.now x (HasText c.args.n c.text_at-name.result.now) c.text_at-name.ensures e) settled)
    c.settle.ensures.settles
