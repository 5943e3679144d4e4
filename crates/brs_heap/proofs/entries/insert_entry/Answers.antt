use Rattle.std.proofs.Common.{rules, map, ap, sym, refl, ◌∙◌}
use Rattle.heap_meaning.specs.Cells.{Pairs}
use Rattle.heap_meaning.specs.Keys.{with_key}
use Rattle.brs_heap.specs.declared.cell.Content.TheVariants.{Pairs as Entries}
use Rattle.brs_heap.specs.Content.{content_of, entry_of}
use Rattle.brs_heap.proofs.Slots.{seen_same, shown_content}
use Rattle.brs_heap.proofs.Calls.{entries_changed, entry_inserted}
use Rattle.brs_heap.proofs.entries.insert_entry.Goals as goal

pub returns-in-Ok-clause-written : goal.returns-in-Ok-clause-written
returns-in-Ok-clause-written c =
    entries_changed c.args.cells.now.slots c.args.place c.in-Some.cell.now (Entries c.insert.new.self) (map entry_of c.in-Pairs.entries.items) (map entry_of c.insert.new.self.items) (λ es. with_key es c.args.entry.key c.args.entry.value) (search rules) (ap content_of c.in-Pairs.is) refl
    (entry_inserted c.args.cells.now.slots c.args.place c.in-Some.cell.now c.in-Pairs.entries.items c.insert.new.self.items c.args.at c.args.entry (search rules) (ap content_of c.in-Pairs.is) c.in-Ok.ensures.items c.requires.gap)

pub returns-in-Err-clause-unchanged : goal.returns-in-Err-clause-unchanged
returns-in-Err-clause-unchanged c = seen_same _ c.args.place c.in-Some.cell.now _ (search rules) (shown_content c.in-Some.cell.now (Entries c.insert.new.self) (ap (λ l. Pairs (map entry_of l)) c.in-Err.ensures.items ∙ sym (ap content_of c.in-Pairs.is)))
