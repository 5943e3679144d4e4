-- The value of the meaning that a value of the program is.
use Rattle.heap_meaning.specs.Values.{Value, Direct, Cell}
use Rattle.brs_heap.specs.declared.value.Kind as k
use Rattle.brs_heap.specs.declared.value.Kind.TheVariants as v

abbrev pub value_of : k.Kind → Value
value_of (v.Plain p) = Direct p
value_of (v.Cell place) = Cell place
