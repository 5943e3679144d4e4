use Rattle.std.proofs.Common.{arith}
use Rattle.brs_grammar.proofs.Last.{last_more}
use Rattle.brs_grammar.proofs.signs.last_is_call.Goals as goal

pub loop-part-preserved : goal.loop-part-preserved
loop-part-preserved c = last_more _ c.args.parts.now c.loop-part.part-index c.part-item.result (omega arith) c.part-item.is c.is_call-found.ensures
