use Rattle.std.proofs.Common.{Some, option_copied, sym, ap, ◌∙◌, subst}
use Rattle.heap_meaning.specs.Heap.{Belongs}
use Rattle.frame_actions.proofs.Moving.{slot_shared}
use Rattle.frame_actions.proofs.slots.share_slot.Goals as goal

pub returns-in-Some-clause-hands : goal.returns-in-Some-clause-hands
returns-in-Some-clause-hands c =
    slot_shared c.args.heap.now c.share.new.self c.args.frames.now c.args.slot c.share.result (sym c.slot.ensures ∙ ap option_copied c.in-Some.is ∙ ap Some (sym c.share.ensures.same))
    (λ b. c.share.ensures.moves (subst (λ w. Belongs c.args.heap.now w) c.share.ensures.same b))
