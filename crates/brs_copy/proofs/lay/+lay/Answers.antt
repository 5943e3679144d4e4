use Rattle.std.proofs.Common.{◌≡◌, ◌∙◌, take, length, refl, ap, arith, rules}
use Rattle.std.proofs.lemmas.List.{length-map, length-take}
use Rattle.chan_values.specs.Tree as l
use Rattle.chan_values.specs.Tree.{TreePair, keys_of, values_of}
use Rattle.chan_values.specs.View.{tree_of, tree_pair_of}
use Rattle.chan_values.proofs.Walk.{walked, item_turn, pair_turn}
use Rattle.heap_meaning.specs.declared.plain.Plain.TheVariants as p
use Rattle.heap_meaning.specs.Values.{Direct}
use Rattle.brs_copy.proofs.Laying.{plain_lays_as, item_laid, pair_laid, pairs_there, few_items, few_pairs}
use Rattle.brs_copy.proofs.lay.+lay.Goals as goal

pub copy_in-returns-in-Nothing-clause-lays : goal.copy_in-returns-in-Nothing-clause-lays
copy_in-returns-in-Nothing-clause-lays t c = plain_lays_as c.args.heap.now c.plain.result p.Invalid l.Invalid c.args.p.now c.plain.ensures refl _ c.in-Nothing.is refl

pub copy_in-returns-in-Truth-clause-lays : goal.copy_in-returns-in-Truth-clause-lays
copy_in-returns-in-Truth-clause-lays t c = plain_lays_as c.args.heap.now c.plain-in-Truth.result (p.Truth c.in-Truth.b) (l.Boolean c.in-Truth.b) c.args.p.now c.plain-in-Truth.ensures refl _ c.in-Truth.is refl

pub copy_in-returns-in-Small-clause-lays : goal.copy_in-returns-in-Small-clause-lays
copy_in-returns-in-Small-clause-lays t c =
    let e : c.plain-in-Small.result ≡ Direct (p.Small c.in-Small.n) = search rules in
    plain_lays_as c.args.heap.now c.plain-in-Small.result (p.Small c.in-Small.n) (l.Integer c.in-Small.n) c.args.p.now e refl _ c.in-Small.is refl

pub copy_in-returns-in-Big-clause-lays : goal.copy_in-returns-in-Big-clause-lays
copy_in-returns-in-Big-clause-lays t c =
    let e : c.plain-in-Big.result ≡ Direct (p.Big c.in-Big.n) = search rules in
    plain_lays_as c.args.heap.now c.plain-in-Big.result (p.Big c.in-Big.n) (l.LongInteger c.in-Big.n) c.args.p.now e refl _ c.in-Big.is refl

pub copy_in-returns-in-Node-clause-lays : goal.copy_in-returns-in-Node-clause-lays
copy_in-returns-in-Node-clause-lays t c = plain_lays_as c.args.heap.now c.plain-in-Node.result (p.Node c.in-Node.n) (l.NodeNumber c.in-Node.n) c.args.p.now c.plain-in-Node.ensures refl _ c.in-Node.is refl

pub copy_in-returns-in-Port-clause-lays : goal.copy_in-returns-in-Port-clause-lays
copy_in-returns-in-Port-clause-lays t c = plain_lays_as c.args.heap.now c.plain-in-Port.result (p.Port c.in-Port.n) (l.PortNumber c.in-Port.n) c.args.p.now c.plain-in-Port.ensures refl _ c.in-Port.is refl

pub lay_items-copy_in-requires : goal.lay_items-copy_in-requires
lay_items-copy_in-requires t c =
    let w = item_turn _ _ _ _ c.as_slice-item-items.ensures.items c.loop-at-test.true c.item-item.is in
    let a = w.deep in let b = w.no_deeper in
    (omega arith, tt)

pub lay_items-put_item-requires-clause-at : goal.lay_items-put_item-requires-clause-at
lay_items-put_item-requires-clause-at t c =
    let few = few_items c.args.items.now c.as_slice-item-items.ensures.portable.bounds in
    let n = ap length c.as_slice-item-items.ensures.items in let m = length-map c.as_slice-item-items.result.now tree_of in let l = c.loop-at-test.true in omega arith

pub lay_items-loop-at-preserved : goal.lay_items-loop-at-preserved
lay_items-loop-at-preserved t c = record {
  laying = item_laid c.args.heap.now c.loop-at.heap c.copy_in.new.heap c.put_item.new.heap c.in_ok-array.array c.args.items.now c.loop-at.at c.in_ok-item.item (tree_of c.item-item.result) c.loop-at.invariant.laying
      (let n = ap length c.as_slice-item-items.ensures.items in let m = length-map c.as_slice-item-items.result.now tree_of in let l = c.loop-at-test.true in omega arith)
      c.in_ok-item.ensures.lays c.in_ok-item.ensures.keeps c.in_ok-put_item.ensures.set c.in_ok-put_item.ensures.grows
      (walked tree_of _ _ c.loop-at.at _ c.as_slice-item-items.ensures.items c.loop-at-test.true c.item-item.is);
  shares = c.put_item.ensures.shares ∙ c.copy_in.ensures.shares ∙ c.loop-at.invariant.shares;
}

pub lay_pairs-copy_in-requires : goal.lay_pairs-copy_in-requires
lay_pairs-copy_in-requires t c =
    let w = pair_turn _ _ _ _ c.as_slice-pair-items.ensures.pairs c.loop-pair-test.true c.pair-item.is in
    let a = w.deep in let b = w.no_deeper in
    (omega arith, tt)

pub lay_pairs-put_value-requires-clause-room : goal.lay_pairs-put_value-requires-clause-room
lay_pairs-put_value-requires-clause-room t c =
    let ps = c.args.pairs.now in let i = c.loop-pair.pair-index in
    let n = pairs_there c.args.heap.now c.loop-pair.heap c.copy_in.new.heap c.in_ok-map.map (keys_of (take i ps)) (values_of (take i ps)) c.loop-pair.invariant.laying c.in_ok-value.ensures.keeps in
    let m = length-map (take i ps) (λ (p : TreePair). p.tree) in let k = length-take i ps in
    let few = few_pairs ps c.as_slice-pair-items.ensures.portable.bounds in omega arith

pub lay_pairs-loop-pair-preserved : goal.lay_pairs-loop-pair-preserved
lay_pairs-loop-pair-preserved t c = record {
  laying = pair_laid c.args.heap.now c.loop-pair.heap c.copy_in.new.heap c.put_value.new.heap c.in_ok-map.map c.args.pairs.now c.loop-pair.pair-index c.in_ok-value.value (tree_pair_of c.pair-item.result) c.loop-pair.invariant.laying
      c.in_ok-value.ensures.lays c.in_ok-value.ensures.keeps c.as_slice-pair-items.ensures.portable.keys.0.0 c.in_ok-put_value.ensures.set c.in_ok-put_value.ensures.grows
      (walked tree_pair_of _ _ c.loop-pair.pair-index _ c.as_slice-pair-items.ensures.pairs c.loop-pair-test.true c.pair-item.is);
  shares = c.put_value.ensures.shares ∙ c.copy_in.ensures.shares ∙ c.loop-pair.invariant.shares;
}
