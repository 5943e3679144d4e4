use Rattle.std.proofs.Common.{◌≡◌, ◌-◌, Err, inl, inr, sym, ap, ◌∙◌, subst, arith, rules}
use Rattle.std.specs.Option.{option_copied}
use Rattle.heap_meaning.specs.Heap.{content_at}
use Rattle.brs_copy.specs.Counts.{CountsAll}
use Rattle.brs_copy.proofs.Forming.{some_child, holding_array, holding_pairs, IsHolding}
use Rattle.brs_copy.proofs.Counting.{count_start, count_more, count_stops, items_counted}
use Rattle.brs_copy.proofs.count.+count.Goals as goal

pub count-returns-else-bound-eq0 : goal.count-returns-else-bound-eq0
count-returns-else-bound-eq0 t c =
    let k : IsHolding c.args.heap.now c.args.v.now = elim c.in-Array.is [ inl e ↦ holding_array c.args.heap.now c.args.v.now (sym c.shape.ensures ∙ e) | inr e ↦ holding_pairs c.args.heap.now c.args.v.now (sym c.shape.ensures ∙ e) ] in
    items_counted c.args.heap.now c.args.v.now c.args.bound c.args.left.now (c.args.left.now - 1) c.count_items.new.left c.count_items.result (omega arith) (omega arith) k c.count_items.ensures

pub count_items-loop-at-init : goal.count_items-loop-at-init
count_items-loop-at-init t c = count_start _ _ c.args.left.now

pub count_items-unreachable-requires : goal.count_items-unreachable-requires
count_items-unreachable-requires t c = some_child (content_at c.args.heap.now c.args.v.now) c.loop-at.at c.length-at-end.result c.loop-at-test.true c.length-at-end.ensures (sym (ap option_copied c.in_default.is) ∙ c.child.ensures)

pub count_items-returns-in_err-count : goal.count_items-returns-in_err-count
count_items-returns-in_err-count t c =
    let e : c.from_residual.result ≡ Err c.in_err-count.field-0.0 = search rules in
    subst (CountsAll _ c.args.left.now c.count.new.left) (sym e) (count_stops _ _ c.loop-at.at c.args.left.now c.loop-at.left c.count.new.left c.in-Some.item.now c.in_err-count.field-0.0 c.loop-at.invariant (sym c.in-Some.ensures) c.in_err-count.ensures)

pub count_items-loop-at-preserved : goal.count_items-loop-at-preserved
count_items-loop-at-preserved t c = count_more _ _ c.loop-at.at c.args.left.now c.loop-at.left c.count.new.left c.in-Some.item.now c.loop-at.invariant (sym c.in-Some.ensures) c.in_ok-count.ensures
