use Rattle.std.proofs.Common.{take, arith}
use Rattle.chan_values.specs.Tree.{values_of}
use Rattle.chan_values.specs.View.{tree_of, tree_pair_of}
use Rattle.chan_values.proofs.Walk.{item_turn, pair_turn, walked, values_walked}
use Rattle.node_tree.proofs.NamedLists.{named_more}
use Rattle.node_tree.proofs.named.+named.Goals as goal

pub push_items-push_named-requires : goal.push_items-push_named-requires
push_items-push_named-requires t c =
    let w = item_turn _ _ _ _ c.as_slice-item-items.ensures.items c.loop-item-test.true c.item-item.is in
    let a = w.deep in let b = w.no_deeper in
    (omega arith, tt)

pub push_items-loop-item-preserved : goal.push_items-loop-item-preserved
push_items-loop-item-preserved t c =
    let w = walked tree_of _ _ c.loop-item.item-index _ c.as_slice-item-items.ensures.items c.loop-item-test.true c.item-item.is in
    named_more c.args.named.now.items _ _ (take c.loop-item.item-index c.args.items.now) _ _ w c.loop-item.invariant c.in_ok-push_named.ensures

pub push_pairs-push_named-requires : goal.push_pairs-push_named-requires
push_pairs-push_named-requires t c =
    let w = pair_turn _ _ _ _ c.as_slice-pair-items.ensures.pairs c.loop-pair-test.true c.pair-item.is in
    let a = w.deep in let b = w.no_deeper in
    (omega arith, tt)

pub push_pairs-loop-pair-preserved : goal.push_pairs-loop-pair-preserved
push_pairs-loop-pair-preserved t c =
    let w = walked tree_pair_of _ _ c.loop-pair.pair-index _ c.as_slice-pair-items.ensures.pairs c.loop-pair-test.true c.pair-item.is in
    named_more c.args.named.now.items _ _ (values_of (take c.loop-pair.pair-index c.args.pairs.now)) _ _ (values_walked c.args.pairs.now c.loop-pair.pair-index _ w) c.loop-pair.invariant c.in_ok-push_named.ensures
