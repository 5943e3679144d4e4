use Rattle.std.proofs.Common.{◌≡◌, IfSome, sym, subst}
use Rattle.heap_meaning.specs.Heap.{Belongs}
use Rattle.frame_stack.specs.Frame.{innermost}
use Rattle.frame_actions.proofs.Moving.{m_shared}
use Rattle.frame_actions.proofs.slots.share_m.Goals as goal

pub returns-clause-hands : goal.returns-clause-hands
returns-clause-hands c =
    m_shared c.args.heap.now c.share.new.self c.args.frames.now c.share.result c.requires.there (subst (λ w. IfSome (innermost c.args.frames.now) (λ frame. w ≡ frame.m)) (sym c.share.ensures.same) c.m.ensures)
    (λ b. c.share.ensures.moves (subst (λ w. Belongs c.args.heap.now w) c.share.ensures.same b))
