use Rattle.std.proofs.Common.{rules, sym}
use Rattle.node_tree.proofs.NameCompares.{longer, shorter, is_less, is_greater, goes_on}
use Rattle.node_tree.proofs.names.compare_folded.Goals as goal

pub returns-then-at-other : goal.returns-then-at-other
returns-then-at-other c = longer c.args.name.now c.args.other.now c.loop-at.at c.loop-at.invariant c.loop-at-test.true c.if-at-other.true

pub returns-in-Less : goal.returns-in-Less
returns-in-Less c = is_less c.args.name.now c.args.other.now c.loop-at.at c.loop-at.invariant _ _ c.cmp.result c.loop-at-test.true (search rules) c.to_ascii_lowercase.ensures.value c.to_ascii_lowercase-in-loop-at.ensures.value c.cmp.ensures (sym c.in-Less.is)

pub returns-in-Greater : goal.returns-in-Greater
returns-in-Greater c = is_greater c.args.name.now c.args.other.now c.loop-at.at c.loop-at.invariant _ _ c.cmp.result c.loop-at-test.true (search rules) c.to_ascii_lowercase.ensures.value c.to_ascii_lowercase-in-loop-at.ensures.value c.cmp.ensures (sym c.in-Greater.is)

pub loop-at-preserved : goal.loop-at-preserved
loop-at-preserved c = goes_on c.args.name.now c.args.other.now c.loop-at.at c.loop-at.invariant _ _ c.cmp.result c.loop-at-test.true (search rules) c.to_ascii_lowercase.ensures.value c.to_ascii_lowercase-in-loop-at.ensures.value c.cmp.ensures (sym c.in-Equal.is)

pub returns-then-name-other : goal.returns-then-name-other
returns-then-name-other c = shorter c.args.name.now c.args.other.now c.loop-at.at c.loop-at.invariant (search rules) (search rules)
