-- The instruction of each form, without its operands.
use Rattle.std.specs.Prelude.{ℕ, zero, suc, ◌+◌, if◌then◌else◌, List, [], ◌∷◌, map, Option, None, Some}
use Rattle.brs_tokens.specs.declared.number.NumberValue.{NumberValue}
use Rattle.brs_tokens.specs.declared.number.NumberValue.TheVariants as value
use Rattle.brs_grammar.specs.declared.tree.ComparisonSign.{ComparisonSign}
use Rattle.brs_grammar.specs.declared.tree.ComparisonSign.TheVariants as comparison
use Rattle.brs_grammar.specs.declared.tree.LoopKind.{LoopKind}
use Rattle.brs_grammar.specs.declared.tree.LoopKind.TheVariants as loops
use Rattle.brs_grammar.specs.declared.tree.ProductSign.{ProductSign}
use Rattle.brs_grammar.specs.declared.tree.ProductSign.TheVariants as product
use Rattle.brs_grammar.specs.declared.tree.ShiftSign.{ShiftSign}
use Rattle.brs_grammar.specs.declared.tree.ShiftSign.TheVariants as shift
use Rattle.brs_grammar.specs.declared.tree.SumSign.{SumSign}
use Rattle.brs_grammar.specs.declared.tree.SumSign.TheVariants as sum
use Rattle.brs_grammar.specs.declared.tree.TypeWord.{TypeWord}
use Rattle.brs_grammar.specs.declared.tree.TypeWord.TheVariants as type
use Rattle.brs_grammar.specs.declared.tree.UpdateSign.{UpdateSign}
use Rattle.brs_grammar.specs.declared.tree.UpdateSign.TheVariants as update
use Rattle.brs_grammar.specs.Form as p
use Rattle.brs_grammar.specs.Form.{Text, Head, Forms, none, more, Params, unnamed, required, optional}
use Rattle.brs_forms.specs.Words.{number_of, is_m}
use Rattle.code_relation.specs.declared.exits.Exits.{Exits}
use Rattle.brs_code.specs.declared.instr.Instr.{Instr}
use Rattle.brs_code.specs.declared.instr.Instr.TheVariants as i
use Rattle.brs_code.specs.declared.instr.Operator.{Operator}
use Rattle.brs_code.specs.declared.instr.Operator.TheVariants as op
use Rattle.brs_code.specs.declared.function.Mark.{Mark}
use Rattle.brs_code.specs.declared.function.Mark.TheVariants as mark
use Rattle.brs_code.specs.declared.function.ValueType.{ValueType}
use Rattle.brs_code.specs.declared.function.ValueType.TheVariants as kind

abbrev pub count : Forms → ℕ
count none = zero
count (more f fs) = suc (count fs)

-- how many there are without the first
abbrev pub others : ℕ → ℕ
others zero = zero
others (suc n) = n

-- ---- operators

abbrev pub comparison_operator : ComparisonSign → Operator
comparison_operator comparison.Equal = op.Equal
comparison_operator comparison.NotEqual = op.NotEqual
comparison_operator comparison.Less = op.Less
comparison_operator comparison.Greater = op.Greater
comparison_operator comparison.LessEqual = op.LessEqual
comparison_operator comparison.GreaterEqual = op.GreaterEqual

abbrev pub shift_operator : ShiftSign → Operator
shift_operator shift.Left = op.ShiftLeft
shift_operator shift.Right = op.ShiftRight

abbrev pub sum_operator : SumSign → Operator
sum_operator sum.Plus = op.Add
sum_operator sum.Minus = op.Subtract

abbrev pub product_operator : ProductSign → Operator
product_operator product.Times = op.Multiply
product_operator product.Divide = op.Divide
product_operator product.Modulo = op.Modulo

abbrev pub update_operator : UpdateSign → Operator
update_operator update.Plus = op.Add
update_operator update.Minus = op.Subtract
update_operator update.Times = op.Multiply
update_operator update.Divide = op.Divide

-- ---- expressions

abbrev pub number_instr : NumberValue → Instr
number_instr (value.Integer n) = i.Integer n
number_instr (value.LongInteger n) = i.LongInteger n

abbrev pub name_instr : Text → ℕ → Instr
name_instr x n = if is_m x then i.LoadM else i.Load n

-- The instruction of an expression's head with k operands. What it names stands at n in its table: the slot of a variable, a text, the name
-- of a member, the first key of pairs, or an anonymous function.
abbrev pub head_instr : Head → (n k : ℕ) → Instr
head_instr (p.Number t) n k = number_instr (number_of t)
head_instr (p.Quoted t) n k = i.Text n
head_instr (p.Truth b) n k = i.Truth b
head_instr p.Invalid n k = i.Invalid
head_instr (p.Name x) n k = name_instr x n
head_instr p.Array n k = i.MakeArray k
head_instr (p.Pairs keys) n k = i.MakePairs n k
head_instr p.Negate n k = i.Negate
head_instr p.Not n k = i.Not
head_instr p.And n k = i.Binary op.And
head_instr p.Or n k = i.Binary op.Or
head_instr (p.Compare s) n k = i.Binary (comparison_operator s)
head_instr (p.Shift s) n k = i.Binary (shift_operator s)
head_instr (p.Add s) n k = i.Binary (sum_operator s)
head_instr (p.Multiply s) n k = i.Binary (product_operator s)
head_instr (p.Member x) n k = i.Member n
head_instr p.Index n k = i.Index
head_instr (p.CallMember x) n k = i.CallMember n (others k)
head_instr p.Call n k = i.Call (others k)
head_instr (p.Anonymous kind ps type body) n k = i.Function n

-- ---- statements

-- what reads the target for `+=` and its kin, and keeps the operands of the target
abbrev pub keep_instr : p.Aim → ℕ → Instr
keep_instr (p.ToName x) n = name_instr x n
keep_instr (p.ToMember x) n = i.KeepMember n
keep_instr p.ToIndex n = i.KeepIndex

abbrev pub set_instr : p.Aim → ℕ → Instr
set_instr (p.ToName x) n = i.Store n
set_instr (p.ToMember x) n = i.StoreMember n
set_instr p.ToIndex n = i.StoreIndex

abbrev pub return_instr : ℕ → Instr
return_instr zero = i.ReturnInvalid
return_instr (suc n) = i.Return

-- two operands, or three with a step
abbrev pub for_instr : (k n : ℕ) → Instr
for_instr (suc (suc (suc k))) n = i.ForStep n
for_instr _ n = i.For n

abbrev pub mark_of : p.Mark → Mark
mark_of p.Semicolon = mark.Semicolon
mark_of p.Comma = mark.Comma
mark_of p.Shown = mark.Value

abbrev pub exit_instr : Exits → LoopKind → Instr
exit_instr x loops.For = i.Exit x.for_keeps x.for_to
exit_instr x loops.While = i.Exit x.while_keeps x.while_to

-- ---- functions

abbrev pub value_type : Option TypeWord → ValueType
value_type None = kind.Any
value_type (Some type.Integer) = kind.Integer
value_type (Some type.LongInteger) = kind.LongInteger
value_type (Some type.String) = kind.String
value_type (Some type.Boolean) = kind.Boolean
value_type (Some type.Function) = kind.Function
value_type (Some type.Object) = kind.Any
value_type (Some type.Dynamic) = kind.Any
value_type (Some type.Interface) = kind.Any
value_type (Some type.Void) = kind.Any

-- how many arguments a call needs: up to the last parameter without a default, of those from number i on
abbrev pub needed_from : (i found : ℕ) → Params → ℕ
needed_from i found unnamed = found
needed_from i found (required at x type ps) = needed_from (i + 1) (i + 1) ps
needed_from i found (optional at x type e ps) = needed_from (i + 1) found ps

abbrev pub needed_of : Params → ℕ
needed_of ps = needed_from 0 0 ps
