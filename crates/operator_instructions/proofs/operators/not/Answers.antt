use Rattle.brs_code.specs.declared.instr.Instr.TheVariants as i
use Rattle.moving_instructions.proofs.Going.{if_ok_then}
use Rattle.operator_instructions.proofs.Rows.{not_is}
use Rattle.operator_instructions.proofs.operators.not.Goals as goal

pub returns-clause-ok : goal.returns-clause-ok
returns-clause-ok c = if_ok_then c.operate_on.result _ _ (λ error done. done i.Not not_is) c.operate_on.ensures.ok
