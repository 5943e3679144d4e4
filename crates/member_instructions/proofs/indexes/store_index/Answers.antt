use Rattle.brs_code.specs.declared.instr.Instr.TheVariants as i
use Rattle.frame_stack.specs.declared.header.Landing.TheVariants as d
use Rattle.member_accesses.specs.Rows.{index_write_row}
use Rattle.moving_instructions.proofs.Going.{if_ok_then}
use Rattle.instruction_effects.specs.Effects.{Anywhere}
use Rattle.member_instructions.proofs.Rows.{Any, store_index_is}
use Rattle.member_instructions.proofs.Doing.{so_long, does}
use Rattle.member_instructions.proofs.indexes.store_index.Goals as goal

pub write_index-requires-clause-operands : goal.write_index-requires-clause-operands
write_index-requires-clause-operands c = so_long c.last.result.now c.args.frames.now 3 c.last.ensures c.requires.operands

pub returns-clause-ok : goal.returns-clause-ok
returns-clause-ok c =
    if_ok_then c.settle.result _ _
    (λ effect settled.
    does Anywhere Any c.args.heap.now c.write_index.new.heap c.settle.new.heap c.args.frames.now c.settle.new.frames i.StoreIndex 3 3 c.args.line d.Nowhere index_write_row c.last.result.now c.in_ok-reached.reached effect c.requires.there c.requires.operands c.last.ensures c.in_ok-reached.ensures.answer store_index_is
    (λ x e image number own name frame always i. tt) settled)
    c.settle.ensures.settles
