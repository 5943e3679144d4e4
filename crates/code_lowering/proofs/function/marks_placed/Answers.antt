use Rattle.std.proofs.Common.{◌∙◌}
use Rattle.code_lowering.proofs.Growing.{grows_marks}
use Rattle.code_lowering.proofs.Snoc.{marks_at}
use Rattle.code_lowering.proofs.function.marks_placed.Goals as goal

pub returns-clause-grows : goal.returns-clause-grows
returns-clause-grows c = grows_marks _ _ _ c.in_ok-index.ensures.added

pub returns-clause-stands : goal.returns-clause-stands
returns-clause-stands c all f n r h = marks_at all _ _ f _ n _ _ _ _ _ _ c.in_ok-index.ensures.at c.in_ok-index.ensures.added r (c.holds.ensures.instr ∙ c.in_ok-indexed.ensures) c.holds.ensures.line c.holds.ensures.operands h
