use Rattle.std.proofs.Common.{◌≡◌, Some, sym, ap, ◌∙◌}
use Rattle.chan_values.specs.Folded.{folded}
use Rattle.heap_meaning.specs.Heap.{content_at}
use Rattle.heap_meaning.specs.Reading.{value_in}
use Rattle.heap_meaning.proofs.Showing.{value_belongs}
use Rattle.brs_heap.proofs.heap.Heap.share_key.Goals as goal

pub returns-clause-moves : goal.returns-clause-moves
returns-clause-moves c = λ name store before after s m.
    let e : value_in (content_at c.args.self.now c.args.v.now) (folded c.args.key.now) ≡ Some c.twin-item.result = sym c.in-Some.ensures ∙ ap Some (sym c.twin-item.ensures) in
    c.share.ensures.moves (value_belongs c.args.self.now name store before c.args.v.now (folded c.args.key.now) c.twin-item.result s e) name store before after s m
