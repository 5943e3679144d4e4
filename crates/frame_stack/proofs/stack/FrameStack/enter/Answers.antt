use Rattle.std.proofs.Common.{◌≡◌, length, sym, ap, ◌∙◌, arith}
use Rattle.std.specs.Prelude.{reverse}
use Rattle.frame_stack.specs.Cutting.{headers_of, frames_of}
use Rattle.frame_stack.proofs.CuttingLaws.{entered_view}
use Rattle.frame_stack.proofs.stack.FrameStack.enter.Goals as goal

pub put_below-requires-clause-whole : goal.put_below-requires-clause-whole
put_below-requires-clause-whole c = λ e. ap reverse c.reserve.ensures.items ∙ c.self.invariant.whole (sym c.replace-caller.ensures.value ∙ e)

pub returns-clause-ok : goal.returns-clause-ok
returns-clause-ok c =
    let f : c.len-first_slot.result ≡ length c.self.inside.slots.items = omega (arith, c.len-first_slot.ensures) in
    ap (λ t. frames_of (headers_of t (reverse c.put_below.new.below.items)) c.self.inside.operands c.add_unset.new.slots.items) c.replace-caller.ensures.after
    ∙ entered_view (headers_of c.self.inside.top (reverse c.self.inside.below.items)) (reverse c.put_below.new.below.items) c.self.inside.operands c.self.inside.slots.items c.add_unset.new.slots.items c.args.head c.args.m c.len.result c.len-first_slot.result c.args.slots c.args.arguments c.args.self.now
    (c.put_below.ensures ∙ ap (λ t. headers_of t (reverse c.reserve.new.self.items)) c.replace-caller.ensures.value ∙ ap (λ l. headers_of c.self.inside.top (reverse l)) c.reserve.ensures.items)
    c.len.ensures f c.in_ok-add_unset.ensures.ok c.self.invariant.begin c.self.view_is c.requires
