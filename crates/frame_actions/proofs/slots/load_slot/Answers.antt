use Rattle.std.proofs.Common.{refl, sym, ◌∙◌, subst, true}
use Rattle.frame_actions.specs.Actions.{Loaded}
use Rattle.frame_actions.proofs.Moving.{carries_push, slot_there}
use Rattle.frame_actions.proofs.slots.load_slot.Goals as goal

pub returns-in_ok-push_value-in-Some-clause-loaded : goal.returns-in_ok-push_value-in-Some-clause-loaded
returns-in_ok-push_value-in-Some-clause-loaded c =
    subst (λ held. Loaded held c.args.place true c.args.heap.now c.args.frames.now c.share_slot.new.heap c.push_value.new.frames) (sym (sym c.share_slot.ensures.value ∙ c.in-Some.is)) (
      refl,
      c.in_ok-push_value-in-Some.ensures.ok,
      carries_push c.args.heap.now c.share_slot.new.heap c.args.frames.now c.push_value.new.frames c.in-Some.v c.args.place (slot_there c.args.slot c.args.frames.now c.requires.slot) c.in-Some.ensures.hands c.in_ok-push_value-in-Some.ensures.ok,
    )
