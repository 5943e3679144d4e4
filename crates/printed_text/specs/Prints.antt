-- What the text of a `print` is, in the meaning.
use Rattle.std.specs.Prelude.{◌≡◌, List, map}
use Rattle.heap_meaning.specs.Values as h
use Rattle.heap_meaning.specs.Store.{Store}
use Rattle.heap_meaning.specs.Stands.{Naming, Outside, meaning, Stands}
use Rattle.heap_meaning.specs.Heap.{Heap}
use Rattle.object_operations.specs.Applies.{AreOut}
use Rattle.brs_code.specs.declared.function.Mark.{Mark}
use Rattle.brs_meaning.specs.Printing as m
use Rattle.brs_meaning.specs.Printing.{printed}
use Rattle.machine_meaning.specs.Statements.{form_mark}
use Rattle.printed_text.specs.declared.printing.Printing.{Printing}
use Rattle.printed_text.specs.declared.printing.Printing.TheVariants as p

abbrev pub printing_of : Printing → m.Printing
printing_of (p.Printed text) = m.Printed text
printing_of (p.Raises error) = m.Unprinted error

-- whatever the store that the heap stands for, the text or the error is that of the values that these are there
abbrev pub Prints : Heap → List Mark → List h.Value → Printing → Type 0
Prints heap marks values printing =
    (name : Naming) (store : Store) (outside : Outside) → Stands name heap.cells store outside → AreOut values outside
    → printing_of printing ≡ printed (map form_mark marks) (map (meaning name) values) store
