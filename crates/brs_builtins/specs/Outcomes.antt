-- Operations on values that are no objects, by what each gives of its operands. A wrong number of operands raises E6.
use Rattle.std.specs.Prelude.{List, [], ◌∷◌, map, length}
use Rattle.chan_values.specs.declared.error_code.ErrorCode.TheVariants.{E6}
use Rattle.heap_meaning.specs.Values.{StoreValue}
use Rattle.heap_meaning.specs.Store.{Store}
use Rattle.plain_operations.specs.Operand.{Operand}
use Rattle.plain_operations.specs.Outcome.{Outcome, Raises}
use Rattle.plain_operations.specs.Operators.{operated, operated_alone}
use Rattle.plain_operations.specs.Methods.{method_row}
use Rattle.plain_operations.specs.declared.operator.Operator.{Operator}
use Rattle.plain_operations.specs.declared.operator.UnaryOperator.{UnaryOperator}
use Rattle.plain_operations.specs.declared.method.PlainMethod.{PlainMethod}
use Rattle.object_operations.specs.Answer.{Answer}
use Rattle.brs_builtins.specs.Operands.{operand, answer_of}

abbrev pub operator_outcome : Operator → List Operand → Outcome
operator_outcome op (left ∷ right ∷ []) = operated op left right
operator_outcome op _ = Raises E6

abbrev pub unary_outcome : UnaryOperator → List Operand → Outcome
unary_outcome op (a ∷ []) = operated_alone op a
unary_outcome op _ = Raises E6

-- what the method is called on stands first
abbrev pub method_outcome : PlainMethod → List Operand → Outcome
method_outcome m (receiver ∷ others) = method_row m receiver (length others)
method_outcome m [] = Raises E6

-- the answer is what is given of the arguments as operands, and the store stays
abbrev pub on_operands : (List Operand → Outcome) → List StoreValue → Store → Answer
on_operands given arguments store = answer_of (given (map operand arguments)) store
