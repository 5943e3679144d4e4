-- A parameter, or a returned value, as its declared type takes it.
use Rattle.std.specs.Prelude.{ℤ, pos, negsuc, int_le, ◌&&◌, Bool, if◌then◌else◌}
use Rattle.plain_operations.specs.Operand as v
use Rattle.plain_operations.specs.declared.fit.Fit.{Fit}
use Rattle.plain_operations.specs.declared.fit.Fit.TheVariants.{Unchanged, Integer, LongInteger, Refused}
use Rattle.plain_operations.specs.declared.fit.ValueType.{ValueType}
use Rattle.plain_operations.specs.declared.fit.ValueType.TheVariants as t

-- whether a number is in the range of an Integer
abbrev pub is_integer : ℤ → Bool
is_integer n = int_le (negsuc 2147483647) n && int_le n (pos 2147483647)

-- what is refused raises E2
abbrev pub fitted : ValueType → v.Operand → Fit
fitted t.Integer (v.Integer n) = Unchanged
fitted t.Integer (v.LongInteger n) = if is_integer n then Integer n else Refused
fitted t.LongInteger (v.Integer n) = LongInteger n
fitted t.LongInteger (v.LongInteger n) = Unchanged
fitted t.String (v.Words text) = Unchanged
fitted t.Boolean (v.Boolean b) = Unchanged
fitted t.Function v.Function = Unchanged
fitted t.Function v.Invalid = Unchanged
fitted t.Any value = Unchanged
fitted _ _ = Refused
