-- Values as operators, and functions and methods of numbers and texts, see them, and what these give as values.
use Rattle.std.specs.Prelude.{ℕ, List, map, Option, Some, None}
use Rattle.heap_meaning.specs.declared.plain.Plain as pl
use Rattle.heap_meaning.specs.declared.plain.Plain.TheVariants as p
use Rattle.heap_meaning.specs.Values.{Value, StoreValue, Scalar, Words, Reference}
use Rattle.heap_meaning.specs.Store.{Store}
use Rattle.heap_meaning.specs.Heap.{Heap, content_at}
use Rattle.heap_meaning.specs.Reading.{plain_of, text_in}
use Rattle.plain_operations.specs.Operand as v
use Rattle.plain_operations.specs.Operand.{Operand}
use Rattle.plain_operations.specs.Outcome as o
use Rattle.plain_operations.specs.Outcome.{Outcome}
use Rattle.object_operations.specs.Answer.{Answer, Gives, Raises}

abbrev pub plain_operand : pl.Plain → Operand
plain_operand p.Invalid = v.Invalid
plain_operand (p.Truth b) = v.Boolean b
plain_operand (p.Small n) = v.Integer n
plain_operand (p.Big n) = v.LongInteger n
plain_operand (p.Function n) = v.Function
plain_operand _ = v.Other

abbrev pub operand : StoreValue → Operand
operand (Scalar plain) = plain_operand plain
operand (Words bytes) = v.Words bytes
operand (Reference n) = v.Other

abbrev pub answer_of : Outcome → Store → Answer
answer_of o.Invalid store = Gives (Scalar p.Invalid) store
answer_of (o.Boolean b) store = Gives (Scalar (p.Truth b)) store
answer_of (o.Integer n) store = Gives (Scalar (p.Small n)) store
answer_of (o.LongInteger n) store = Gives (Scalar (p.Big n)) store
answer_of (o.Words bytes) store = Gives (Words bytes) store
answer_of (o.Raises error) store = Raises error

-- the same of a value of a heap, by the plain value that it is, else by the text that its cell holds
abbrev pub operand_in : Option pl.Plain → Option (List ℕ) → Operand
operand_in (Some plain) text = plain_operand plain
operand_in None (Some bytes) = v.Words bytes
operand_in None None = v.Other

abbrev pub operand_at : Heap → Value → Operand
operand_at h v = operand_in (plain_of v) (text_in (content_at h v))

abbrev pub operands_at : Heap → List Value → List Operand
operands_at h values = map (operand_at h) values
