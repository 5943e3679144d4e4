use Rattle.heap_meaning.specs.Cells.{Text}
use Rattle.heap_meaning.specs.Framing.{Fresh}
use Rattle.heap_meaning.specs.Heap.{MakesText}
use Rattle.heap_meaning.specs.Store.{MessageObject}
use Rattle.heap_meaning.proofs.Making.{fresh_text}
use Rattle.brs_heap.proofs.Calls.{if_ok_then}
use Rattle.brs_heap.proofs.heap.Heap.make_text.Goals as goal

pub returns-clause-made : goal.returns-clause-made
returns-clause-made c = if_ok_then c.add.result (λ v. Fresh c.args.self.now c.add.new.self v (Text c.args.text)) (λ v. MakesText c.args.self.now c.add.new.self v c.args.text) (λ v f. fresh_text c.args.self.now c.add.new.self v c.args.text f) c.add.ensures.fresh
