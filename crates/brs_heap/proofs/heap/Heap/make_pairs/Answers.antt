use Rattle.std.proofs.Common.{[], ◌∷◌, map, ap, subst, ◌≡◌, List}
use Rattle.heap_meaning.specs.Cells.{Pairs}
use Rattle.heap_meaning.specs.Framing.{Fresh}
use Rattle.heap_meaning.specs.Heap.{MakesObject}
use Rattle.heap_meaning.specs.Keys.{keys_of}
use Rattle.heap_meaning.specs.Store.{MapObject}
use Rattle.heap_meaning.proofs.Making.{fresh_map}
use Rattle.brs_heap.specs.Content.{entry_of}
use Rattle.brs_heap.proofs.Calls.{if_ok_then, bare_keys}
use Rattle.brs_heap.proofs.heap.Heap.make_pairs.Goals as goal

pub add-requires : goal.add-requires
add-requires c = bare_keys _ (ap (λ l. keys_of (map entry_of l)) c.new-entries.ensures.items)

pub returns-clause-made : goal.returns-clause-made
returns-clause-made c = if_ok_then c.add.result (λ v. Fresh c.args.self.now c.add.new.self v (Pairs (map entry_of c.new-entries.result.items))) (λ v. MakesObject c.args.self.now c.add.new.self v (MapObject [])) (λ v f. fresh_map c.args.self.now c.add.new.self v (subst (λ l. Fresh c.args.self.now c.add.new.self v (Pairs l)) (ap (map entry_of) c.new-entries.ensures.items) f)) c.add.ensures.fresh
