use Rattle.brs_code.specs.declared.instr.Instr.TheVariants as i
use Rattle.frame_stack.specs.declared.header.Landing.TheVariants as d
use Rattle.member_accesses.specs.Rows.{index_read_row}
use Rattle.moving_instructions.proofs.Going.{if_ok_then}
use Rattle.instruction_effects.specs.Effects.{Anywhere}
use Rattle.member_instructions.proofs.Rows.{Any, keep_index_is}
use Rattle.member_instructions.proofs.Doing.{so_long, does}
use Rattle.member_instructions.proofs.indexes.keep_index.Goals as goal

pub read_index-requires-clause-operands : goal.read_index-requires-clause-operands
read_index-requires-clause-operands c = so_long c.last.result.now c.args.frames.now 2 c.last.ensures c.requires.operands

pub returns-clause-ok : goal.returns-clause-ok
returns-clause-ok c =
    if_ok_then c.settle.result _ _
    (λ effect settled.
    does Anywhere Any c.args.heap.now c.read_index.new.heap c.settle.new.heap c.args.frames.now c.settle.new.frames i.KeepIndex 2 0 c.args.line d.Operands index_read_row c.last.result.now c.in_ok-reached.reached effect c.requires.there c.requires.operands c.last.ensures c.in_ok-reached.ensures.answer keep_index_is
    (λ x e image number own name frame always i. tt) settled)
    c.settle.ensures.settles
