use Rattle.script_text.proofs.LiteralsLemmas.{same_more}
use Rattle.script_text.proofs.literal.is_escaped.Goals as goal

pub loop-byte-preserved : goal.loop-byte-preserved
loop-byte-preserved c =
    same_more c.args.text.now c.args.bytes.now c.loop-byte.rest.now c.in-Some.more.now c.loop-byte.byte-index c.loop-byte-test.true c.loop-byte.invariant c.in-Some.ensures
