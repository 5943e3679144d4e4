-- Which operation each instruction is.
use Rattle.std.proofs.Common.{◌≡◌, List, [], ◌∷◌, length, reverse, refl, arith}
use Rattle.heap_meaning.specs.Store.{Store}
use Rattle.plain_operations.specs.declared.operator.UnaryOperator.TheVariants as u
use Rattle.brs_code.specs.declared.instr.Instr.TheVariants as i
use Rattle.brs_code.specs.declared.instr.Operator.{Operator}
use Rattle.brs_builtins.specs.declared.operation.Operation.TheVariants as o
use Rattle.brs_builtins.specs.Table.{applied}
use Rattle.brs_meaning.specs.Given.{answered}
use Rattle.machine_meaning.specs.Frame.{Operand, values}
use Rattle.machine_meaning.specs.Setting.{Setting, gives}
use Rattle.machine_meaning.specs.Instructions.{operation, acted}
use Rattle.operator_instructions.specs.Operated.{IsOperation}

binary_row : (op : Operator) (s : Setting) (operands : List Operand) (store : Store) → length operands ≡ 2 → acted s (i.Binary op) operands store ≡ gives s (answered (applied (o.Operator (operation op)) (reverse (values operands)) store))
binary_row op s [] store e = absurd (omega arith)
binary_row op s (a ∷ []) store e = absurd (omega arith)
binary_row op s (b ∷ a ∷ []) store e = refl
binary_row op s (b ∷ a ∷ c ∷ others) store e = absurd (omega arith)

pub binary_is : (op : Operator) → IsOperation (i.Binary op) 2 (o.Operator (operation op))
binary_is op = record { takes = refl; row = binary_row op }

negate_row : (s : Setting) (operands : List Operand) (store : Store) → length operands ≡ 1 → acted s i.Negate operands store ≡ gives s (answered (applied (o.UnaryOperator u.Negate) (reverse (values operands)) store))
negate_row s [] store e = absurd (omega arith)
negate_row s (a ∷ []) store e = refl
negate_row s (b ∷ a ∷ others) store e = absurd (omega arith)

pub negate_is : IsOperation i.Negate 1 (o.UnaryOperator u.Negate)
negate_is = record { takes = refl; row = negate_row }

not_row : (s : Setting) (operands : List Operand) (store : Store) → length operands ≡ 1 → acted s i.Not operands store ≡ gives s (answered (applied (o.UnaryOperator u.Not) (reverse (values operands)) store))
not_row s [] store e = absurd (omega arith)
not_row s (a ∷ []) store e = refl
not_row s (b ∷ a ∷ others) store e = absurd (omega arith)

pub not_is : IsOperation i.Not 1 (o.UnaryOperator u.Not)
not_is = record { takes = refl; row = not_row }
