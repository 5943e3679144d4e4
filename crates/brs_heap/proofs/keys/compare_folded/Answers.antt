use Rattle.std.proofs.Common.{rules, sym}
use Rattle.brs_heap.proofs.Comparing.{longer, shorter, is_less, is_greater, goes_on}
use Rattle.brs_heap.proofs.keys.compare_folded.Goals as goal

pub returns-then-at-key : goal.returns-then-at-key
returns-then-at-key c = longer c.args.name.now c.args.key.now c.loop-at.at c.loop-at.invariant c.loop-at-test.true c.if-at-key.true

pub returns-in-Less : goal.returns-in-Less
returns-in-Less c = is_less c.args.name.now c.args.key.now c.loop-at.at c.loop-at.invariant c.to_ascii_lowercase.result c.cmp.result c.loop-at-test.true (search rules) c.to_ascii_lowercase.ensures.value c.cmp.ensures (sym c.in-Less.is)

pub returns-in-Greater : goal.returns-in-Greater
returns-in-Greater c = is_greater c.args.name.now c.args.key.now c.loop-at.at c.loop-at.invariant c.to_ascii_lowercase.result c.cmp.result c.loop-at-test.true (search rules) c.to_ascii_lowercase.ensures.value c.cmp.ensures (sym c.in-Greater.is)

pub loop-at-preserved : goal.loop-at-preserved
loop-at-preserved c = goes_on c.args.name.now c.args.key.now c.loop-at.at c.loop-at.invariant c.to_ascii_lowercase.result c.cmp.result c.loop-at-test.true (search rules) c.to_ascii_lowercase.ensures.value c.cmp.ensures (sym c.in-Equal.is)

pub returns-then-name-key : goal.returns-then-name-key
returns-then-name-key c = shorter c.args.name.now c.args.key.now c.loop-at.at c.loop-at.invariant (search rules) (search rules)
