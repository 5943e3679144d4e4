use Rattle.std.proofs.Common.{rules, ap, sym, ◌∙◌}
use Rattle.heap_meaning.specs.Cells.{Array}
use Rattle.brs_heap.specs.declared.cell.Content.TheVariants.{Array as Items}
use Rattle.brs_heap.specs.Content.{content_of}
use Rattle.brs_heap.proofs.Slots.{seen_same, shown_content}
use Rattle.brs_heap.proofs.items.place_item.Goals as goal

pub returns-in-Err-clause-unchanged : goal.returns-in-Err-clause-unchanged
returns-in-Err-clause-unchanged c = seen_same _ c.args.place c.in-Some.cell.now _ (search rules) (shown_content c.in-Some.cell.now (Items c.place_in.new.items) (ap Array c.in-Err.ensures.unchanged ∙ sym (ap content_of c.in-Array.is)))
