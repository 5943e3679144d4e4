use Rattle.std.proofs.Common.{arith}
use Rattle.lowering_parts.proofs.Texts.{texts_begin, texts_more, texts_all}
use Rattle.lowering_parts.proofs.tables.Tables.words.Goals as goal

pub loop-word-init : goal.loop-word-init
loop-word-init c = texts_begin c.args.self.now

pub loop-word-preserved : goal.loop-word-preserved
loop-word-preserved c = texts_more c.args.self.now _ _ c.args.words.now c.loop-word.word-index c.word-item.result (omega arith) c.word-item.is c.loop-word.invariant c.in_ok-text.ensures.added

pub returns-clause-added : goal.returns-clause-added
returns-clause-added c = texts_all c.args.self.now _ c.args.words.now c.loop-word.word-index c.loop-word-test.false c.loop-word.invariant
