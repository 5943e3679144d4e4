use Rattle.std.proofs.Common.{◌∙◌, ◌+◌, [], ◌∷◌, ◌++◌, Some, sym, ap, subst, arith}
use Rattle.std.proofs.lemmas.List.{map-append}
use Rattle.chan_values.specs.Portable.{IsKeyList}
use Rattle.chan_values.specs.Tree.{keys_of, values_of}
use Rattle.chan_values.specs.View.{tree_of}
use Rattle.heap_meaning.specs.Heap.{content_at}
use Rattle.heap_meaning.specs.Reading.{children_in, keys_in}
use Rattle.copy_meaning.specs.Bounded.{tree_within}
use Rattle.copy_meaning.specs.Forms.{form_at}
use Rattle.brs_copy.proofs.Trees.{take_one}
use Rattle.brs_copy.proofs.Filling.{Filling, fill_more, item_fits, item_has_room, keys_front, words_filled, pairs_bounded}
use Rattle.brs_copy.proofs.fill.+fill.Goals as goal

pub fill-returns-in-Plain : goal.fill-returns-in-Plain
fill-returns-in-Plain t c = c.fill_plain.ensures c.args.bound

pub fill-returns-in-Words : goal.fill-returns-in-Words
fill-returns-in-Words t c = words_filled c.args.heap.now c.args.v.now c.args.bound c.fill_words.result c.fill_words.ensures

pub fill_items-fill-requires : goal.fill_items-fill-requires
fill_items-fill-requires t c = (omega arith, item_fits _ _ c.loop-at.at c.loop-at.copies c.in-Some.item.now c.loop-at.invariant c.requires (sym c.in-Some.ensures))

pub fill_items-push-requires : goal.fill_items-push-requires
fill_items-push-requires t c = item_has_room _ _ c.loop-at.at c.loop-at.copies c.in-Some.item.now (tree_of c.in_ok-copy.copy) c.loop-at.invariant c.requires (sym c.in-Some.ensures) c.in_ok-copy.ensures

pub fill_items-loop-at-preserved : goal.fill_items-loop-at-preserved
fill_items-loop-at-preserved t c =
    subst (Filling (tree_within (form_at c.args.heap.now) c.args.bound) (children_in (content_at c.args.heap.now c.args.v.now)) (c.loop-at.at + 1)) (sym c.in_ok-push.ensures.ok)
    (fill_more _ _ c.loop-at.at c.loop-at.copies c.in-Some.item.now (tree_of c.in_ok-copy.copy) c.loop-at.invariant (sym c.in-Some.ensures) c.in_ok-copy.ensures)

pub fill_pairs-fill-requires : goal.fill_pairs-fill-requires
fill_pairs-fill-requires t c = (omega arith, item_fits _ _ c.loop-at.at (values_of c.loop-at.copies) c.in-Some-child.item.now c.loop-at.invariant.values c.requires.fits (sym c.in-Some-child.ensures))

pub fill_pairs-push-requires-clause-keys : goal.fill_pairs-push-requires-clause-keys
fill_pairs-push-requires-clause-keys t c =
    let keys = keys_in (content_at c.args.heap.now c.args.v.now) in
    let e = take_one keys c.loop-at.at c.in_ok-key.key (sym c.in-Some.ensures.key ∙ ap Some (sym c.in_ok-key.ensures)) in
    subst IsKeyList (e ∙ ap (λ ks. ks ++ c.in_ok-key.key ∷ []) (sym c.loop-at.invariant.keys)) (keys_front keys (c.loop-at.at + 1) c.in-Some.ensures.ascending)

pub fill_pairs-push-requires-clause-bounds : goal.fill_pairs-push-requires-clause-bounds
fill_pairs-push-requires-clause-bounds t c =
    pairs_bounded c.loop-at.copies _ (item_has_room _ _ c.loop-at.at (values_of c.loop-at.copies) c.in-Some-child.item.now (tree_of c.in_ok-value.value) c.loop-at.invariant.values c.requires.fits (sym c.in-Some-child.ensures) c.in_ok-value.ensures)

pub fill_pairs-loop-at-preserved : goal.fill_pairs-loop-at-preserved
fill_pairs-loop-at-preserved t c =
    let keys = keys_in (content_at c.args.heap.now c.args.v.now) in
    let e = take_one keys c.loop-at.at c.in_ok-key.key (sym c.in-Some.ensures.key ∙ ap Some (sym c.in_ok-key.ensures)) in
    record {
      values = subst (Filling (tree_within (form_at c.args.heap.now) c.args.bound) (children_in (content_at c.args.heap.now c.args.v.now)) (c.loop-at.at + 1)) (sym (ap values_of c.in_ok-push.ensures.ok ∙ map-append (λ p. p.tree) c.loop-at.copies _))
          (fill_more _ _ c.loop-at.at (values_of c.loop-at.copies) c.in-Some-child.item.now (tree_of c.in_ok-value.value) c.loop-at.invariant.values (sym c.in-Some-child.ensures) c.in_ok-value.ensures);
      keys = ap keys_of c.in_ok-push.ensures.ok ∙ map-append (λ p. p.key) c.loop-at.copies _ ∙ ap (λ ks. ks ++ c.in_ok-key.key ∷ []) c.loop-at.invariant.keys ∙ sym e;
    }
