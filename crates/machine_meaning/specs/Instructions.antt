-- What each instruction does with the operands that it takes, of which the last stands first: one row for each.
use Rattle.std.specs.Prelude.{List, [], map, reverse, take, drop, slice_get}
use Rattle.heap_meaning.specs.declared.plain.Plain.TheVariants as p
use Rattle.heap_meaning.specs.Values.{Scalar, Words}
use Rattle.heap_meaning.specs.Store.{ArrayObject, MapObject, Store}
use Rattle.plain_operations.specs.declared.operator.Operator as plain
use Rattle.plain_operations.specs.declared.operator.Operator.TheVariants as o
use Rattle.plain_operations.specs.declared.operator.UnaryOperator.TheVariants as u
use Rattle.brs_meaning.specs.Given.{Gives, makes}
use Rattle.brs_meaning.specs.Names.{found}
use Rattle.brs_meaning.specs.Heads.{unary, binary, entries, member_of, index_of}
use Rattle.brs_meaning.specs.Printing.{printed}
use Rattle.brs_code.specs.declared.instr.Instr.{Instr}
use Rattle.brs_code.specs.declared.instr.Instr.TheVariants as i
use Rattle.brs_code.specs.declared.instr.Operator.{Operator}
use Rattle.brs_code.specs.declared.instr.Operator.TheVariants as c
use Rattle.machine_meaning.specs.Image.{anonymous_number}
use Rattle.machine_meaning.specs.Frame.{Operand, values}
use Rattle.machine_meaning.specs.Acted.{Acted, Goes, Leaves, Ends, Lost}
use Rattle.machine_meaning.specs.Setting.{Setting, passes, gives, with_text, slot_reads}
use Rattle.machine_meaning.specs.Calls.{called_with, member_called_with}
use Rattle.machine_meaning.specs.Statements.{set_slot, set_member, set_index, keep_member, keep_index, form_mark, prints, returns, bind, branch, begin_for, begin_for_step, test_for, next_for, begin_each, next_each}

abbrev pub operation : Operator → plain.Operator
operation c.Or = o.Or
operation c.And = o.And
operation c.Equal = o.Equal
operation c.NotEqual = o.NotEqual
operation c.Less = o.Less
operation c.Greater = o.Greater
operation c.LessEqual = o.LessOrEqual
operation c.GreaterEqual = o.GreaterOrEqual
operation c.ShiftLeft = o.ShiftLeft
operation c.ShiftRight = o.ShiftRight
operation c.Add = o.Add
operation c.Subtract = o.Subtract
operation c.Multiply = o.Multiply
operation c.Divide = o.Divide
operation c.Modulo = o.Remainder

abbrev pub acted : Setting → Instr → List Operand → Store → Acted
acted s i.Invalid ops store = gives s (Gives (Scalar p.Invalid) store)
acted s (i.Truth b) ops store = gives s (Gives (Scalar (p.Truth b)) store)
acted s (i.Integer n) ops store = gives s (Gives (Scalar (p.Small n)) store)
acted s (i.LongInteger n) ops store = gives s (Gives (Scalar (p.Big n)) store)
acted s (i.Text n) ops store = with_text (slice_get s.frame.function.texts n) (λ t. gives s (Gives (Words t) store))
acted s i.LoadM ops store = gives s (Gives s.frame.m store)
acted s (i.Load n) ops store = gives s (found (slot_reads s n) store)
acted s (i.Function n) ops store = gives s (Gives (Scalar (p.Function (anonymous_number s.image s.frame.function n))) store)
acted s (i.MakeArray k) ops store = gives s (makes (ArrayObject (reverse (values ops))) store)
acted s (i.MakePairs n k) ops store = gives s (makes (MapObject (entries (take k (drop n s.frame.function.texts)) (reverse (values ops)) [])) store)
acted s i.Negate ops store = gives s (unary u.Negate (values ops) store)
acted s i.Not ops store = gives s (unary u.Not (values ops) store)
acted s (i.Binary op) ops store = gives s (binary (operation op) (values ops) store)
-- where the left side decides; else the way to the next instruction is free
acted s (i.AndTest to) ops store = Goes s.frame.slots store ops to
acted s (i.OrTest to) ops store = Goes s.frame.slots store ops to
acted s (i.Member n) ops store = with_text (slice_get s.frame.function.texts n) (λ k. gives s (member_of k (values ops) store))
acted s i.Index ops store = gives s (index_of (values ops) store)
acted s (i.CallMember n k) ops store = with_text (slice_get s.frame.function.texts n) (λ name. member_called_with s name (reverse (values ops)) store)
acted s (i.Call k) ops store = called_with s (reverse (values ops)) store
acted s (i.Store n) ops store = set_slot s n (values ops) store
acted s (i.StoreMember n) ops store = with_text (slice_get s.frame.function.texts n) (λ k. set_member s k (values ops) store)
acted s i.StoreIndex ops store = set_index s (values ops) store
acted s (i.KeepMember n) ops store = with_text (slice_get s.frame.function.texts n) (λ k. keep_member s k ops (values ops) store)
acted s i.KeepIndex ops store = keep_index s ops (values ops) store
acted s i.Drop ops store = passes s s.frame.slots store []
acted s (i.Print n marks k) ops store = prints (printed (map form_mark (take marks (drop n s.frame.function.marks))) (reverse (values ops)) store)
acted s i.Return ops store = returns s.frame.function.value (values ops)
acted s i.ReturnInvalid ops store = Leaves (Scalar p.Invalid)
acted s i.End ops store = Ends
acted s (i.Branch to) ops store = branch s to (values ops) store
acted s i.While ops store = passes s s.frame.slots store []
acted s (i.Again to) ops store = Goes s.frame.slots store [] to
acted s (i.For n) ops store = begin_for s n (values ops) store
acted s (i.ForStep n) ops store = begin_for_step s n (values ops) store
acted s (i.ForTest n to) ops store = test_for s n to ops (values ops) store
acted s (i.ForNext n to) ops store = next_for s n to ops (values ops) store
acted s (i.ForEach to) ops store = begin_each s to (values ops) store
acted s (i.EachNext n to) ops store = next_each s n to ops store
acted s (i.Exit k to) ops store = Goes s.frame.slots store [] to
acted s (i.Bind n) ops store = bind s (slice_get s.frame.function.parameters n) (values ops) store
-- always free
acted s (i.Jump to) ops store = Lost
