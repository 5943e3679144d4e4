use Rattle.std.proofs.Common.{arith, sym, ap, ◌∙◌, Some, map}
use Rattle.std.specs.Prelude.{slice_get}
use borrow.Author.Tests.{ltb-true, ltb-false}
use Rattle.heap_meaning.specs.Heap.{content_at}
use Rattle.brs_heap.specs.declared.cell.Entry.{Entry}
use Rattle.brs_heap.specs.Content.{entry_of}
use Rattle.brs_heap.proofs.Calls.{keys_of_none, keys_of_entries, key_past, key_shown}
use Rattle.brs_heap.proofs.heap.Heap.key_at.Goals as goal

pub returns-in_err-entries-clause-ascending : goal.returns-in_err-entries-clause-ascending
returns-in_err-entries-clause-ascending c = keys_of_none (content_at c.args.self.now c.args.v.now) c.in_err-entries.ensures.entries

pub returns-in-None-clause-key : goal.returns-in-None-clause-key
returns-in-None-clause-key c = sym (ap (λ ks. slice_get ks c.args.at) (keys_of_entries (content_at c.args.self.now c.args.v.now) (map entry_of c.in_ok-entries.field-0.now) c.in_ok-entries.ensures.entries) ∙ key_past c.in_ok-entries.field-0.now c.args.at (omega (arith, ltb-false, c.in-None.ensures.lookup)))

pub returns-in-Some-clause-key : goal.returns-in-Some-clause-key
returns-in-Some-clause-key c =
    let b = c.in-Some.ensures.lookup in
    sym (ap (λ ks. slice_get ks c.args.at) (keys_of_entries (content_at c.args.self.now c.args.v.now) (map entry_of c.in_ok-entries.field-0.now) c.in_ok-entries.ensures.entries) ∙ key_shown c.in_ok-entries.field-0.now c.args.at c.in-Some.entry.now (omega (arith, ltb-true, b.0)) ∙ ap (λ (x : Entry). Some x.key) (sym b.1))
