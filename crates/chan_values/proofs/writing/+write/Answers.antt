use Rattle.std.proofs.Common.{◌≡◌, ◌∙◌, ◌++◌, ap, sym, subst, arith}
use Rattle.std.specs.Prelude.{OnOk}
use Rattle.chan_values.specs.View.{tree_of, tree_pair_of}
use Rattle.chan_values.specs.ValueText.{listed, value_text, pair_text}
use Rattle.chan_values.proofs.Walk.{item_turn, pair_turn}
use Rattle.chan_values.proofs.Texts.{written_more, texts_walked, enclosed, items_text, pairs_text}
use Rattle.chan_values.proofs.writing.+write.Goals as goal

pub write_items-write_one-requires : goal.write_items-write_one-requires
write_items-write_one-requires t c =
    let w = item_turn _ _ _ _ c.as_slice-slice.ensures.items c.loop-at-test.true c.index-slice-at.is in
    let a = w.deep in let b = w.no_deeper in
    (omega arith, tt)

pub write_items-loop-at-preserved : goal.write_items-loop-at-preserved
write_items-loop-at-preserved t c =
    let w = texts_walked tree_of value_text _ _ c.loop-at.at _ c.as_slice-slice.ensures.items c.loop-at-test.true c.index-slice-at.is in
    written_more c.args.out.now _ _ _ _ _ c.loop-at.at w.1 c.loop-at.invariant c.in_ok-write_separator.ensures c.in_ok-write_one.ensures ∙ ap (λ r. c.args.out.now ++ listed r) w.0

pub write_one-returns-in_ok-write_items-in-Items :
    goal.write_one-returns-in_ok-write_items-in-Items
write_one-returns-in_ok-write_items-in-Items t c =
    let e = enclosed c.args.out.now _ _ _ 91 93 c.in_ok-push_str-in-Items.ensures.ok c.in_ok-write_items-in-Items.ensures in
    subst (λ x. OnOk c.push_str-in-Items-2.result (c.push_str-in-Items-2.new.self ≡ x)) (e ∙ ap (λ r. c.args.out.now ++ r) (items_text c.in-Items.items ∙ ap (λ x. value_text (tree_of x)) (sym c.in-Items.is))) c.push_str-in-Items-2.ensures.ok

pub write_one-returns-in_ok-write_pairs-in-Pairs :
    goal.write_one-returns-in_ok-write_pairs-in-Pairs
write_one-returns-in_ok-write_pairs-in-Pairs t c =
    let e = enclosed c.args.out.now _ _ _ 123 125 c.in_ok-push_str-in-Pairs.ensures.ok c.in_ok-write_pairs-in-Pairs.ensures in
    subst (λ x. OnOk c.push_str-in-Pairs-2.result (c.push_str-in-Pairs-2.new.self ≡ x)) (e ∙ ap (λ r. c.args.out.now ++ r) (pairs_text c.in-Pairs.pairs ∙ ap (λ x. value_text (tree_of x)) (sym c.in-Pairs.is))) c.push_str-in-Pairs-2.ensures.ok

pub write_pairs-write_pair-requires : goal.write_pairs-write_pair-requires
write_pairs-write_pair-requires t c =
    let w = pair_turn _ _ _ _ c.as_slice-slice.ensures.pairs c.loop-at-test.true c.index-slice-at.is in
    let a = w.deep in let b = w.no_deeper in
    (omega arith, tt)

pub write_pairs-loop-at-preserved : goal.write_pairs-loop-at-preserved
write_pairs-loop-at-preserved t c =
    let w = texts_walked tree_pair_of pair_text _ _ c.loop-at.at _ c.as_slice-slice.ensures.pairs c.loop-at-test.true c.index-slice-at.is in
    written_more c.args.out.now _ _ _ _ _ c.loop-at.at w.1 c.loop-at.invariant c.in_ok-write_separator.ensures c.in_ok-write_pair.ensures ∙ ap (λ r. c.args.out.now ++ listed r) w.0
