use Rattle.std.proofs.Common.{sym, subst}
use Rattle.brs_code.specs.declared.instr.Instr.TheVariants as i
use Rattle.brs_builtins.specs.declared.operation.Operation.TheVariants as o
use Rattle.moving_instructions.proofs.Going.{if_ok_then}
use Rattle.operator_instructions.specs.Operated.{IsOperation}
use Rattle.operator_instructions.proofs.Rows.{binary_is}
use Rattle.operator_instructions.proofs.operators.binary.Goals as goal

pub returns-clause-ok : goal.returns-clause-ok
returns-clause-ok c =
    if_ok_then c.operate_on.result _ _
    (λ error done. done (i.Binary c.args.operator) (subst (λ op. IsOperation (i.Binary c.args.operator) 2 (o.Operator op)) (sym c.operator_of-of_table.ensures) (binary_is c.args.operator)))
    c.operate_on.ensures.ok
