use Rattle.std.proofs.Common.{[], ◌∙◌, arith}
use Rattle.object_makers.proofs.KeyListLaws.{fresh_array, pushes_first, pushes_next, lists_keys}
use Rattle.object_makers.proofs.keys.list_keys.Goals as goal

pub loop-at-init : goal.loop-at-init
loop-at-init c = record {
  pushes = pushes_first c.make_array.new.self c.args.pairs.now c.in_ok-list.list;
  array = fresh_array c.args.heap.now c.make_array.new.self c.in_ok-list.list [] c.in_ok-list.ensures.fresh;
  shares = c.make_array.ensures.shares;
}

pub loop-at-preserved : goal.loop-at-preserved
loop-at-preserved c = record {
  pushes = pushes_next c.make_array.new.self c.loop-at.heap c.push_key.new.heap c.args.pairs.now c.in_ok-list.list c.loop-at.at c.loop-at.invariant.pushes c.in_ok-push_key.ensures.pushed;
  array = c.in_ok-push_key.ensures.list;
  shares = c.push_key.ensures.shares ∙ c.loop-at.invariant.shares;
}

pub returns-clause-answer : goal.returns-clause-answer
returns-clause-answer c = lists_keys c.args.heap.now c.make_array.new.self c.loop-at.heap c.args.pairs.now c.in_ok-list.list c.loop-at.at c.in_ok-list.ensures.made (omega arith) c.loop-at.invariant.pushes
