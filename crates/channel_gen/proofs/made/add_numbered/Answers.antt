use Rattle.std.proofs.Common.{rules, arith}
use Rattle.channel_gen.proofs.Numbers.{files_more, files_all}
use Rattle.channel_gen.proofs.made.add_numbered.Goals as goal

pub loop-number-preserved : goal.loop-number-preserved
loop-number-preserved c =
    record {
      from_one = omega arith;
      so_far = files_more _ _ _ c.loop-number.number c.loop-number.invariant.so_far (search rules) c.loop-number.invariant.from_one;
    }

pub returns : goal.returns
returns c = files_all _ _ c.loop-number.number c.args.size c.loop-number.invariant.so_far (omega arith)
