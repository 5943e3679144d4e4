use Rattle.std.proofs.Common.{sym, ◌∙◌, arith}
use Rattle.std.proofs.lemmas.Str.{encodes-chars}
use Rattle.std.specs.Str.{chars}
use Rattle.std.specs.Str.Iter.{chars_rest}
use Rattle.plain_operations.proofs.Characters.{rest_step, rest_ends}
use Rattle.plain_operations.proofs.parts.rest_after.Goals as goal

pub loop-i-init : goal.loop-i-init
loop-i-init c = ((tt, tt), c.chars-rest.ensures.rest ∙ sym (encodes-chars c.args.s.now c.utf8.s))

pub returns-in-None : goal.returns-in-None
returns-in-None c = rest_ends (chars c.args.s.now) (chars_rest c.loop-i.rest) c.loop-i._i c.args.n c.loop-i.invariant.1 c.in-None.ensures.steps.0.0 (omega arith)

pub loop-i-preserved : goal.loop-i-preserved
loop-i-preserved c =
    ((tt, tt), rest_step (chars c.args.s.now) (chars_rest c.loop-i.rest) (chars_rest c.next.new.self) c.loop-i._i _ c.loop-i.invariant.1 c.in-Some.ensures.steps.0)
