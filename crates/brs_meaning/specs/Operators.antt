-- Which operation an operator of the source is.
use Rattle.brs_grammar.specs.declared.tree.ComparisonSign.{ComparisonSign}
use Rattle.brs_grammar.specs.declared.tree.ComparisonSign.TheVariants as c
use Rattle.brs_grammar.specs.declared.tree.ProductSign.{ProductSign}
use Rattle.brs_grammar.specs.declared.tree.ProductSign.TheVariants as p
use Rattle.brs_grammar.specs.declared.tree.ShiftSign.{ShiftSign}
use Rattle.brs_grammar.specs.declared.tree.ShiftSign.TheVariants as s
use Rattle.brs_grammar.specs.declared.tree.SumSign.{SumSign}
use Rattle.brs_grammar.specs.declared.tree.SumSign.TheVariants as a
use Rattle.brs_grammar.specs.declared.tree.UpdateSign.{UpdateSign}
use Rattle.brs_grammar.specs.declared.tree.UpdateSign.TheVariants as u
use Rattle.plain_operations.specs.declared.operator.Operator.{Operator}
use Rattle.plain_operations.specs.declared.operator.Operator.TheVariants as o

abbrev pub comparison : ComparisonSign → Operator
comparison c.Equal = o.Equal
comparison c.NotEqual = o.NotEqual
comparison c.Less = o.Less
comparison c.Greater = o.Greater
comparison c.LessEqual = o.LessOrEqual
comparison c.GreaterEqual = o.GreaterOrEqual

abbrev pub shift : ShiftSign → Operator
shift s.Left = o.ShiftLeft
shift s.Right = o.ShiftRight

abbrev pub sum : SumSign → Operator
sum a.Plus = o.Add
sum a.Minus = o.Subtract

abbrev pub product : ProductSign → Operator
product p.Times = o.Multiply
product p.Divide = o.Divide
product p.Modulo = o.Remainder

-- `+=` and its kin
abbrev pub updating : UpdateSign → Operator
updating u.Plus = o.Add
updating u.Minus = o.Subtract
updating u.Times = o.Multiply
updating u.Divide = o.Divide
