use Rattle.std.proofs.Common.{take, subst, arith}
use Rattle.std.proofs.lemmas.List.{take_all}
use Rattle.literal_instructions.specs.Literals.{Enters}
use Rattle.literal_instructions.proofs.Building.{enters_none, enters_next, pairs_made}
use Rattle.literal_instructions.proofs.pairs.pairs_of.Goals as goal

pub loop-at-init : goal.loop-at-init
loop-at-init c = record { enters = enters_none c.make_pairs.new.self c.in_ok-pairs.pairs; shares = omega (arith, c.make_pairs.ensures.shares) }

pub loop-at-preserved : goal.loop-at-preserved
loop-at-preserved c = record {
  enters =
      enters_next c.make_pairs.new.self c.loop-at.heap c.put_pair.new.heap c.in_ok-pairs.pairs c.args.keys.now c.args.items.now c.loop-at.at c.index-keys-at.result c.index-items-at.result c.requires.each c.loop-at-test.true c.index-keys-at.is c.index-items-at.is
      c.loop-at.invariant.enters c.in_ok-put_pair.ensures.put;
  shares = omega (arith, c.put_pair.ensures.shares);
}

pub returns-clause-made : goal.returns-clause-made
returns-clause-made c =
    let at = c.loop-at.at in
    let all = c.args.items.now in
    let keys = c.args.keys.now in
    pairs_made c.args.heap.now c.make_pairs.new.self c.loop-at.heap c.in_ok-pairs.pairs keys all c.in_ok-pairs.ensures.made
    (
    subst (λ ks. Enters c.make_pairs.new.self c.loop-at.heap c.in_ok-pairs.pairs ks all) (take_all at keys (omega (arith, c.loop-at-test.false, c.requires.each)))
    (subst (λ vs. Enters c.make_pairs.new.self c.loop-at.heap c.in_ok-pairs.pairs (take at keys) vs) (take_all at all (omega (arith, c.loop-at-test.false))) c.loop-at.invariant.enters)
    )
