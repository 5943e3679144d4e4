use Rattle.std.proofs.Common.{arith, sym, ap, Some, ◌∙◌}
use borrow.Author.Tests.{ltb-true}
use Rattle.brs_heap.specs.Content.{content_of}
use Rattle.brs_heap.proofs.Positions.{child_in}
use Rattle.brs_heap.proofs.heap.Heap.child_at.Goals as goal

pub returns-in-Some : goal.returns-in-Some
returns-in-Some c =
    let b = c.in-Some.ensures.lookup in
    child_in _ c.in-Some-Pairs.entries.items _ c.args.at c.in-Some.entry.now (ap (λ d. Some (content_of d)) (sym c.in-Some-Pairs.field-0-is) ∙ c.in-Some-Pairs.ensures) c.deref-in-Some-Pairs.ensures.value (omega (arith, ltb-true, b.0)) b.1
