-- What a message tells, as a value of a store.
use Rattle.heap_meaning.specs.declared.plain.Plain.TheVariants as p
use Rattle.heap_meaning.specs.Values.{StoreValue, Scalar, Words}
use Rattle.object_makers.specs.declared.messages.Told as r
use Rattle.object_makers.specs.declared.messages.Told.TheVariants as v

abbrev pub told_of : r.Told → StoreValue
told_of (v.Words text) = Words text
told_of (v.Node n) = Scalar (p.Node n)
