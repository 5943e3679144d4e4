use Rattle.std.proofs.Common.{refl}
use Rattle.brs_heap.specs.Content.{content_of}
use Rattle.brs_heap.proofs.Making.{made_sound, made_fresh}
use Rattle.brs_heap.proofs.heap.Heap.add.Goals as goal

pub invariant_of-self-2 : goal.invariant_of-self-2
invariant_of-self-2 c = made_sound _ _ c.in-Ok.place _ (content_of c.args.content) refl refl c.in-Ok.ensures.was_vacant c.in-Ok.ensures.updates.changed c.in-Ok.ensures.updates.others c.self.inside.shares c.requires c.self.invariant

pub returns-clause-fresh : goal.returns-clause-fresh
returns-clause-fresh c = made_fresh c.self.inside.cells.slots _ c.in-Ok.place _ (content_of c.args.content) refl refl c.in-Ok.ensures.was_vacant c.in-Ok.ensures.updates.changed c.in-Ok.ensures.updates.others c.args.self.now c.self.inside.shares c.self.inside.shares c.cell.result c.self.view_is c.cell.ensures
