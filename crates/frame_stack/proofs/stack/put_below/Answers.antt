use Rattle.std.proofs.Common.{sym, ap, ◌∙◌}
use Rattle.std.specs.Prelude.{reverse}
use Rattle.frame_stack.specs.Cutting.{headers_of}
use Rattle.frame_stack.proofs.stack.put_below.Goals as goal

pub returns-in-None : goal.returns-in-None
returns-in-None c = c.requires.whole c.in-None.is ∙ sym (ap (λ t. headers_of t (reverse c.args.below.now.items)) c.in-None.is)
