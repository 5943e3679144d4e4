use Rattle.std.proofs.Common.{◌+◌, ◌≤◌, ◌≡◌, ◌∷◌, Some, sym, ap, subst, arith, ◌∙◌}
use Rattle.std.specs.Prelude.{slice_index_or}
use Rattle.heap_meaning.specs.Values.{filler}
use Rattle.heap_meaning.specs.Keys.{placed}
use Rattle.heap_meaning.specs.Cells.{Array, occurrence}
use Rattle.heap_meaning.specs.Reading.{children_in, length_in}
use Rattle.heap_meaning.specs.Stands.{Outside}
use Rattle.heap_meaning.specs.Heap.{Heap, content_at}
use Rattle.heap_meaning.specs.Framing.{Rewritten, ItemsChange}
use Rattle.heap_meaning.specs.declared.plain.Plain.TheVariants.{Invalid}
use Rattle.heap_meaning.proofs.Changes.{item_placed}
use Rattle.brs_heap.proofs.Making.{place_is}
use Rattle.brs_heap.proofs.Writing.{content_slot, written_rewritten, written_sound, items_order, past_children}
use Rattle.brs_heap.proofs.heap.Heap.set.Goals as goal

pub invariant_of-self-in-Ok : goal.invariant_of-self-in-Ok
invariant_of-self-in-Ok c = written_sound c.self.inside.cells.slots _ c.in-Some.place _ _ c.in-Ok.ensures.written (λ x y. items_order (λ items. placed filler items c.args.at c.args.item) x y) c.self.invariant

pub returns-in-Ok-clause-set : goal.returns-in-Ok-clause-set
returns-in-Ok-clause-set c = λ name store before after n items s b names row out.
    let is = place_is c.args.v.now c.in-Some.place (sym c.place.ensures ∙ c.in-Some.is) in
    let mid : Outside = λ k. after k + occurrence k c.in-Ok.old in
    let there = content_slot c.args.self.now c.self.inside.cells.slots c.self.inside.shares c.in-Some.place c.args.v.now c.self.view_is is in
    c.release.ensures.moves name _ mid after
    (item_placed c.args.self.now _ c.args.v.now c.args.at c.args.item c.in-Ok.old
    (written_rewritten c.args.self.now c.self.inside.cells.slots c.place_item.new.cells.slots c.self.inside.shares c.self.inside.shares c.in-Some.place c.args.v.now _ c.self.view_is is c.in-Ok.ensures.written)
    (λ vs e. c.in-Ok.ensures.was ∙ ap (λ o. slice_index_or (children_in o) c.args.at filler) (there ∙ e))
    name store before mid n items s b names row (λ k. let x = out k in omega arith))
    (λ k. omega arith)

pub returns-in-Ok-clause-grows : goal.returns-in-Ok-clause-grows
returns-in-Ok-clause-grows c = λ l.
    let is = place_is c.args.v.now c.in-Some.place (sym c.place.ensures ∙ c.in-Some.is) in
    let there = content_slot c.args.self.now c.self.inside.cells.slots c.self.inside.shares c.in-Some.place c.args.v.now c.self.view_is is in
    let was : c.in-Ok.old ≡ filler = c.in-Ok.ensures.was ∙ ap (λ o. slice_index_or (children_in o) c.args.at filler) there ∙ past_children (content_at c.args.self.now c.args.v.now) c.args.at l in
    subst (λ (h : Heap). Rewritten c.args.self.now h c.args.v.now (ItemsChange (λ items. placed filler items c.args.at c.args.item))) (sym (c.release.ensures.plain Invalid was))
    (written_rewritten c.args.self.now c.self.inside.cells.slots c.place_item.new.cells.slots c.self.inside.shares c.self.inside.shares c.in-Some.place c.args.v.now _ c.self.view_is is c.in-Ok.ensures.written)
