use Rattle.std.proofs.Common.{ap, subst, arith}
use Rattle.std.specs.Prelude.{IsTrue}
use Rattle.chan_values.specs.View.{tree_of, tree_pair_of}
use Rattle.chan_values.proofs.Walk.{item_turn, pair_turn}
use Rattle.chan_values.proofs.Fronts.{both_walked, both_at}
use Rattle.chan_values.proofs.Inverse.{tree_tells, pair_same}
use Rattle.chan_values.proofs.equality.+same.Goals as goal

pub same_items-same-requires : goal.same_items-same-requires
same_items-same-requires t c =
    let w = item_turn _ _ _ _ c.as_slice-left.ensures.items (omega arith) c.index-left-at.is in
    let a = w.deep in let b = w.no_deeper in
    (omega arith, tt)

pub same_items-returns-then-not-same : goal.same_items-returns-then-not-same
same_items-returns-then-not-same t c = (
  λ h. absurd cc,
  λ e. subst IsTrue c.if-not-same.true (c.same.ensures.1 (tree_tells _ _ (both_at tree_of _ _ _ _ c.loop-at.at _ _ c.as_slice-left.ensures.items c.as_slice-right.ensures.items (omega arith) c.index-left-at.is (omega arith) c.index-right-at.is e))),
)

pub same_items-loop-at-preserved : goal.same_items-loop-at-preserved
same_items-loop-at-preserved t c =
    both_walked tree_of _ _ _ _ c.loop-at.at _ _ c.as_slice-left.ensures.items c.as_slice-right.ensures.items (omega arith) c.index-left-at.is (omega arith) c.index-right-at.is c.loop-at.invariant (ap tree_of (c.same.ensures.0 c.if-not-same.false))

pub same_pair-returns : goal.same_pair-returns
same_pair-returns t c = (
  λ h. pair_same _ _ (c.same_text.ensures.0 c.if-not-same_text.false) (ap tree_of (c.same.ensures.0 h)),
  λ e. c.same.ensures.1 (tree_tells _ _ (ap (λ n. n.tree) e)),
)

pub same_pairs-same_pair-requires : goal.same_pairs-same_pair-requires
same_pairs-same_pair-requires t c =
    let w = pair_turn _ _ _ _ c.as_slice-left.ensures.pairs (omega arith) c.index-left-at.is in
    let a = w.deep in let b = w.no_deeper in
    (omega arith, tt)

pub same_pairs-returns-then-not-same_pair : goal.same_pairs-returns-then-not-same_pair
same_pairs-returns-then-not-same_pair t c = (
  λ h. absurd cc,
  λ e. subst IsTrue c.if-not-same_pair.true (c.same_pair.ensures.1 (both_at tree_pair_of _ _ _ _ c.loop-at.at _ _ c.as_slice-left.ensures.pairs c.as_slice-right.ensures.pairs (omega arith) c.index-left-at.is (omega arith) c.index-right-at.is e)),
)

pub same_pairs-loop-at-preserved : goal.same_pairs-loop-at-preserved
same_pairs-loop-at-preserved t c =
    both_walked tree_pair_of _ _ _ _ c.loop-at.at _ _ c.as_slice-left.ensures.pairs c.as_slice-right.ensures.pairs (omega arith) c.index-left-at.is (omega arith) c.index-right-at.is c.loop-at.invariant (c.same_pair.ensures.0 c.if-not-same_pair.false)
