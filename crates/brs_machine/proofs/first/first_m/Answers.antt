use Rattle.std.proofs.Common.{◌∙◌, take, arith}
use Rattle.std.proofs.lemmas.List.{length-map, length-take}
use Rattle.chan_values.specs.Tree.{TreePair, keys_of, values_of}
use Rattle.chan_values.specs.View.{tree_pair_of}
use Rattle.chan_values.proofs.Walk.{walked}
use Rattle.brs_copy.proofs.Laying.{pair_laid, pairs_there, few_pairs}
use Rattle.brs_machine.proofs.first.first_m.Goals as goal

pub put_value-requires-clause-room : goal.put_value-requires-clause-room
put_value-requires-clause-room c =
    let ps = c.args.pairs.now in let i = c.loop-pair.pair-index in
    let n = pairs_there c.args.heap.now c.loop-pair.heap c.copy_in.new.heap c.in_ok-map.map (keys_of (take i ps)) (values_of (take i ps)) c.loop-pair.invariant.laying c.in_ok-value.ensures.keeps in
    let m = length-map (take i ps) (λ (p : TreePair). p.tree) in let k = length-take i ps in
    let few = few_pairs ps c.as_slice-pair-items.ensures.portable.bounds in omega arith

pub loop-pair-preserved : goal.loop-pair-preserved
loop-pair-preserved c = record {
  laying = pair_laid c.args.heap.now c.loop-pair.heap c.copy_in.new.heap c.put_value.new.heap c.in_ok-map.map c.args.pairs.now c.loop-pair.pair-index c.in_ok-value.value (tree_pair_of c.pair-item.result) c.loop-pair.invariant.laying
      c.in_ok-value.ensures.lays c.in_ok-value.ensures.keeps c.as_slice-pair-items.ensures.portable.keys.0.0 c.in_ok-put_value.ensures.set c.in_ok-put_value.ensures.grows
      (walked tree_pair_of _ _ c.loop-pair.pair-index _ c.as_slice-pair-items.ensures.pairs c.loop-pair-test.true c.pair-item.is);
  shares = c.put_value.ensures.shares ∙ c.copy_in.ensures.shares ∙ c.loop-pair.invariant.shares;
}
