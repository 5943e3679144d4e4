use Rattle.heap_meaning.specs.Cells.{Message}
use Rattle.heap_meaning.specs.Framing.{Fresh}
use Rattle.heap_meaning.specs.Heap.{MakesObject}
use Rattle.heap_meaning.specs.Store.{MessageObject}
use Rattle.heap_meaning.proofs.Making.{fresh_message}
use Rattle.brs_heap.proofs.Calls.{if_ok_then}
use Rattle.brs_heap.proofs.heap.Heap.make_message.Goals as goal

pub returns-clause-made : goal.returns-clause-made
returns-clause-made c = if_ok_then c.add.result (λ v. Fresh c.args.self.now c.add.new.self v (Message c.args.m)) (λ v. MakesObject c.args.self.now c.add.new.self v (MessageObject c.args.m)) (λ v f. fresh_message c.args.self.now c.add.new.self v c.args.m f) c.add.ensures.fresh
