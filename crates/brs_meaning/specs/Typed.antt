-- A parameter, and a returned value, by its type.
use Rattle.std.specs.Prelude.{Option, Some, None}
use Rattle.brs_grammar.specs.declared.tree.TypeWord.{TypeWord}
use Rattle.brs_grammar.specs.declared.tree.TypeWord.TheVariants as w
use Rattle.heap_meaning.specs.declared.plain.Plain.TheVariants.{Small, Big}
use Rattle.heap_meaning.specs.Values.{StoreValue, Scalar}
use Rattle.plain_operations.specs.Fit.{fitted}
use Rattle.plain_operations.specs.declared.fit.Fit.{Fit}
use Rattle.plain_operations.specs.declared.fit.Fit.TheVariants as f
use Rattle.plain_operations.specs.declared.fit.ValueType.{ValueType}
use Rattle.plain_operations.specs.declared.fit.ValueType.TheVariants as v
use Rattle.brs_builtins.specs.Operands.{operand}

abbrev pub word_type : TypeWord → ValueType
word_type w.Integer = v.Integer
word_type w.LongInteger = v.LongInteger
word_type w.String = v.String
word_type w.Boolean = v.Boolean
word_type w.Function = v.Function
word_type _ = v.Any

abbrev pub value_type : Option TypeWord → ValueType
value_type None = v.Any
value_type (Some word) = word_type word

abbrev pub fit_value : Fit → StoreValue → Option StoreValue
fit_value f.Unchanged value = Some value
fit_value (f.Integer n) value = Some (Scalar (Small n))
fit_value (f.LongInteger n) value = Some (Scalar (Big n))
fit_value f.Refused value = None

-- the value as a type takes it, or None where it doesn't
abbrev pub typed : Option TypeWord → StoreValue → Option StoreValue
typed kind value = fit_value (fitted (value_type kind) (operand value)) value
