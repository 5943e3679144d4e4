use Rattle.std.proofs.Common.{◌∙◌}
use Rattle.code_lowering.proofs.Growing.{grows_slot}
use Rattle.code_lowering.proofs.Snoc.{slot_at}
use Rattle.code_lowering.proofs.function.slot_placed.Goals as goal

pub returns-clause-grows : goal.returns-clause-grows
returns-clause-grows c = grows_slot _ _ _ c.in_ok-index.ensures.others

pub returns-clause-stands : goal.returns-clause-stands
returns-clause-stands c all f n r h = slot_at all _ f _ n _ _ _ _ _ _ c.in_ok-index.ensures.at r (c.holds.ensures.instr ∙ c.in_ok-indexed.ensures) c.holds.ensures.line c.holds.ensures.operands h
