use Rattle.std.proofs.Common.{[], ◌∷◌, map, ap, subst, ◌≡◌, List}
use Rattle.heap_meaning.specs.Cells.{Array}
use Rattle.heap_meaning.specs.Framing.{Fresh}
use Rattle.heap_meaning.specs.Heap.{MakesObject}
use Rattle.heap_meaning.specs.Keys.{keys_of}
use Rattle.heap_meaning.specs.Store.{ArrayObject}
use Rattle.heap_meaning.proofs.Making.{fresh_array}
use Rattle.brs_heap.specs.Content.{entry_of}
use Rattle.brs_heap.proofs.Calls.{if_ok_then, bare_keys}
use Rattle.brs_heap.proofs.heap.Heap.make_array.Goals as goal

pub returns-clause-made : goal.returns-clause-made
returns-clause-made c = if_ok_then c.add.result (λ v. Fresh c.args.self.now c.add.new.self v (Array c.new-items.result.items)) (λ v. MakesObject c.args.self.now c.add.new.self v (ArrayObject [])) (λ v f. fresh_array c.args.self.now c.add.new.self v (subst (λ l. Fresh c.args.self.now c.add.new.self v (Array l)) (c.new-items.ensures.items) f)) c.add.ensures.fresh
