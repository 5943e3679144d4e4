-- The values that numbers spell.
use Rattle.brs_tokens.specs.declared.number.NumberValue.{NumberValue}
use Rattle.brs_tokens.specs.declared.number.NumberValue.TheVariants.{Integer, LongInteger}
use Rattle.heap_meaning.specs.declared.plain.Plain.TheVariants.{Small, Big}
use Rattle.heap_meaning.specs.Values.{StoreValue, Scalar}
use Rattle.brs_grammar.specs.Form.{Text}
use Rattle.brs_forms.specs.Words as w

abbrev pub number_spelled : NumberValue → StoreValue
number_spelled (Integer n) = Scalar (Small n)
number_spelled (LongInteger n) = Scalar (Big n)

abbrev pub number_of : Text → StoreValue
number_of t = number_spelled (w.number_of t)
