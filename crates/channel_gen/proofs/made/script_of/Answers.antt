use Rattle.std.proofs.Common.{rules, arith, ◌+◌}
use Rattle.channel_gen.proofs.Numbers.{script_more, script_all}
use Rattle.channel_gen.proofs.made.script_of.Goals as goal

pub loop-preserved : goal.loop-preserved
loop-preserved c = script_more _ _ c.loop.counter c.loop.invariant c.in_ok-push_slice.ensures.ok

pub returns : goal.returns
returns c = script_all _ c.loop.counter (c.args.size + 2) c.loop.invariant (omega arith)
