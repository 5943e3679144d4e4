use Rattle.std.proofs.Common.{◌≡◌, ◌<◌, ◌≤◌, suc, length, Some, None, sym, ◌∙◌, arith, rules}
use Rattle.std.specs.Prelude.{slice_get}
use Rattle.node_tree.proofs.Searches.{reaching_begins, reaching_on, reaching_ends, few_found}
use Rattle.node_tree.proofs.reach.reach.Goals as goal

pub loop-next-init : goal.loop-next-init
loop-next-init c = reaching_begins c.args.nodes.now c.args.closed c.args.node _ _ (search rules) c.new-found.ensures.unique c.in_ok-visit.ensures

pub loop-next-preserved : goal.loop-next-preserved
loop-next-preserved c =
    let here : slice_get c.loop-next.found.keys c.loop-next.at ≡ Some c.in-Some.next = sym c.get_index.ensures.key ∙ sym c.copied.ensures ∙ c.in-Some.is in
    reaching_on c.args.nodes.now c.args.closed c.args.node c.loop-next.found.keys _ c.loop-next.at c.in-Some.next here c.in_ok-visit_linked.ensures c.loop-next.invariant

pub loop-next-smaller : goal.loop-next-smaller
loop-next-smaller c =
    let here : slice_get c.loop-next.found.keys c.loop-next.at ≡ Some c.in-Some.next = sym c.get_index.ensures.key ∙ sym c.copied.ensures ∙ c.in-Some.is in
    let few : c.loop-next.at < suc (length c.args.nodes.now) = few_found c.args.nodes.now c.args.closed c.args.node c.loop-next.found.keys c.loop-next.at c.in-Some.next c.loop-next.invariant here in
    omega arith

pub overflow_add-at : goal.overflow_add-at
overflow_add-at c =
    let here : slice_get c.loop-next.found.keys c.loop-next.at ≡ Some c.in-Some.next = sym c.get_index.ensures.key ∙ sym c.copied.ensures ∙ c.in-Some.is in
    let few : c.loop-next.at < suc (length c.args.nodes.now) = few_found c.args.nodes.now c.args.closed c.args.node c.loop-next.found.keys c.loop-next.at c.in-Some.next c.loop-next.invariant here in
    let most : length c.args.nodes.now ≤ 1048576 = c.requires in
    omega (arith, few, most)

pub returns : goal.returns
returns c =
    let over : slice_get c.loop-next.found.keys c.loop-next.at ≡ None = search rules in
    reaching_ends c.args.nodes.now c.args.closed c.args.node c.loop-next.found.keys c.loop-next.at over c.loop-next.invariant
