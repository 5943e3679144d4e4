use Rattle.std.proofs.Common.{rules, ◌+◌, ◌-◌, ◌/◌, ◌<◌, ◌≤◌, length, sym, arith}
use Rattle.chan_values.specs.Folded.{folded}
use Rattle.node_tree.specs.NameOrder.{names_of}
use Rattle.node_tree.proofs.NameSearches.{to_lower, to_upper, met, name_read}
use Rattle.node_tree.proofs.field_list.search.Goals as goal

pub loop-low-preserved-in-Less : goal.loop-low-preserved-in-Less
loop-low-preserved-in-Less c =
    let low : c.loop-low.low ≤ c.loop-low.low + (c.loop-low.high - c.loop-low.low) / 2 = search rules in
    let high : c.loop-low.low + (c.loop-low.high - c.loop-low.low) / 2 < c.loop-low.high = search rules in
    let within : c.loop-low.low + (c.loop-low.high - c.loop-low.low) / 2 < length c.args.order.now = let w = c.loop-low.invariant.within in omega arith in
    to_lower (names_of c.args.items.now) c.args.order.now (folded c.args.name.now) c.loop-low.low c.loop-low.high c.loop-low.invariant c.requires (c.loop-low.low + (c.loop-low.high - c.loop-low.low) / 2) low high _
    (name_read c.args.items.now c.args.order.now (c.loop-low.low + (c.loop-low.high - c.loop-low.low) / 2) c.index-items-order.result _ _ c.requires within c.as_str.ensures.bytes c.as_bytes.ensures.value)
    (sym c.in-Less.ensures)

pub loop-low-preserved : goal.loop-low-preserved
loop-low-preserved c =
    let low : c.loop-low.low ≤ c.loop-low.low + (c.loop-low.high - c.loop-low.low) / 2 = search rules in
    let high : c.loop-low.low + (c.loop-low.high - c.loop-low.low) / 2 < c.loop-low.high = search rules in
    let within : c.loop-low.low + (c.loop-low.high - c.loop-low.low) / 2 < length c.args.order.now = let w = c.loop-low.invariant.within in omega arith in
    to_upper (names_of c.args.items.now) c.args.order.now (folded c.args.name.now) c.loop-low.low c.loop-low.high c.loop-low.invariant c.requires (c.loop-low.low + (c.loop-low.high - c.loop-low.low) / 2) low high _
    (name_read c.args.items.now c.args.order.now (c.loop-low.low + (c.loop-low.high - c.loop-low.low) / 2) c.index-items-order.result _ _ c.requires within c.as_str.ensures.bytes c.as_bytes.ensures.value)
    (sym c.in-Greater.ensures)

pub returns-in-Equal-clause-found : goal.returns-in-Equal-clause-found
returns-in-Equal-clause-found c =
    let low : c.loop-low.low ≤ c.loop-low.low + (c.loop-low.high - c.loop-low.low) / 2 = search rules in
    let high : c.loop-low.low + (c.loop-low.high - c.loop-low.low) / 2 < c.loop-low.high = search rules in
    let within : c.loop-low.low + (c.loop-low.high - c.loop-low.low) / 2 < length c.args.order.now = let w = c.loop-low.invariant.within in omega arith in
    met (names_of c.args.items.now) c.args.order.now (folded c.args.name.now) c.loop-low.low c.loop-low.high c.loop-low.invariant c.requires (c.loop-low.low + (c.loop-low.high - c.loop-low.low) / 2) low high _
    (name_read c.args.items.now c.args.order.now (c.loop-low.low + (c.loop-low.high - c.loop-low.low) / 2) c.index-items-order.result _ _ c.requires within c.as_str.ensures.bytes c.as_bytes.ensures.value)
    (sym c.in-Equal.ensures)
