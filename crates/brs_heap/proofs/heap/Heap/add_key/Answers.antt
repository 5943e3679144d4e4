use Rattle.std.proofs.Common.{sym, ◌∙◌, ◌≡◌, ap, subst, map}
use Rattle.chan_values.specs.Folded.{folded}
use Rattle.heap_meaning.specs.Keys.{with_key, keys_of, IsGap}
use Rattle.heap_meaning.specs.Reading.{keys_in}
use Rattle.heap_meaning.specs.Heap.{Heap}
use Rattle.heap_meaning.specs.Framing.{Rewritten, EntriesChange}
use Rattle.heap_meaning.proofs.KeyChanges.{key_added}
use Rattle.brs_heap.specs.Sound.{Written}
use Rattle.brs_heap.specs.Slots.{Slots}
use Rattle.brs_heap.proofs.Writing.{written_rewritten, written_sound, with_order, folded_twice}
use Rattle.brs_heap.proofs.Calls.{on_ok_then, ok_or_same}
use Rattle.brs_heap.proofs.heap.Heap.add_key.Goals as goal

abbrev key_is : (c : goal.After-insert_entry) → c.in-Ok.key ≡ folded c.args.key.now
key_is c = c.in-Ok.ensures

pub invariant_of-self : goal.invariant_of-self
invariant_of-self c = ok_or_same c.insert_entry.result _ _ c.self.inside.shares _ (λ w. written_sound c.self.inside.cells.slots c.insert_entry.new.cells.slots c.args.place _ _ w (λ x y. with_order c.in-Ok.key c.args.item (ap folded (key_is c) ∙ folded_twice c.args.key.now ∙ sym (key_is c)) x y) c.self.invariant) c.self.invariant c.insert_entry.ensures.written c.insert_entry.ensures.unchanged

pub returns-clause-set : goal.returns-clause-set
returns-clause-set c = on_ok_then c.insert_entry.result _ _ (λ w. key_added c.args.self.now _ c.args.v.now (folded c.args.key.now) c.args.at c.args.item (written_rewritten c.args.self.now c.self.inside.cells.slots c.insert_entry.new.cells.slots c.self.inside.shares c.self.inside.shares c.args.place c.args.v.now _ c.self.view_is c.requires.place (subst (λ k. Written c.self.inside.cells.slots c.insert_entry.new.cells.slots c.args.place (EntriesChange (λ es. with_key es k c.args.item))) (key_is c) w)) (λ es e. subst (λ o. IsGap (keys_in o) (folded c.args.key.now) c.args.at) e c.requires.gap)) c.insert_entry.ensures.written

pub returns-clause-rewritten : goal.returns-clause-rewritten
returns-clause-rewritten c = on_ok_then c.insert_entry.result _ _ (λ w. written_rewritten c.args.self.now c.self.inside.cells.slots c.insert_entry.new.cells.slots c.self.inside.shares c.self.inside.shares c.args.place c.args.v.now _ c.self.view_is c.requires.place (subst (λ k. Written c.self.inside.cells.slots c.insert_entry.new.cells.slots c.args.place (EntriesChange (λ es. with_key es k c.args.item))) (key_is c) w)) c.insert_entry.ensures.written
