use Rattle.std.proofs.Common.{refl, sym, subst, ap, ◌∙◌, map, Some}
use Rattle.chan_values.specs.Portable.{IsKeyList}
use Rattle.heap_meaning.specs.Keys.{keys_of}
use Rattle.heap_meaning.specs.Cells.{Pairs}
use Rattle.brs_heap.specs.Content.{entry_of, content_of}
use Rattle.brs_heap.proofs.Calls.{order_of}
use Rattle.brs_heap.proofs.heap.Heap.entries.Goals as goal

pub returns-in-Some-Pairs-clause-ordered : goal.returns-in-Some-Pairs-clause-ordered
returns-in-Some-Pairs-clause-ordered c =
    let k : IsKeyList (keys_of (map entry_of c.in-Some-Pairs.entries.items)) = order_of c.args.self.now c.self.inside.cells.slots c.self.inside.shares c.args.v.now (Pairs (map entry_of c.in-Some-Pairs.entries.items)) c.self.view_is c.self.invariant (sym c.in-Some-Pairs.ensures ∙ ap (λ d. Some (content_of d)) c.in-Some-Pairs.field-0-is) in
    subst (λ l. IsKeyList (keys_of (map entry_of l))) (sym c.as_slice.ensures.value) k
