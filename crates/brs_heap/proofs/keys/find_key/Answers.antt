use Rattle.std.proofs.Common.{rules, ◌+◌, ◌-◌, ◌/◌, ◌<◌, ◌≤◌, ◌≡◌, Some, map, sym, ap, ◌∙◌}
use Rattle.std.specs.Ordering.{nat_cmp}
use Rattle.std.specs.Cmp.Lexicographic.{slice_cmp}
use Rattle.chan_values.specs.Folded.{folded}
use Rattle.heap_meaning.specs.Keys.{keys_of}
use Rattle.brs_heap.specs.Content.{entry_of}
use Rattle.brs_heap.proofs.Search.{to_lower, to_upper}
use Rattle.brs_heap.proofs.MapCalls.{key_middle, same_key}
use Rattle.brs_heap.proofs.keys.find_key.Goals as goal

pub loop-low-preserved-in-Less : goal.loop-low-preserved-in-Less
loop-low-preserved-in-Less c =
    let low : c.loop-low.low ≤ (c.loop-low.low + (c.loop-low.high - c.loop-low.low) / 2) = search rules in
    let high : (c.loop-low.low + (c.loop-low.high - c.loop-low.low) / 2) < c.loop-low.high = search rules in
    to_lower (keys_of (map entry_of c.args.entries.now)) (folded c.args.key.now) c.loop-low.low c.loop-low.high c.loop-low.invariant c.requires (c.loop-low.low + (c.loop-low.high - c.loop-low.low) / 2) low high _
    (key_middle c.args.entries.now (c.loop-low.low + (c.loop-low.high - c.loop-low.low) / 2) c.loop-low.high c.index-entries-middle.result high c.loop-low.invariant.within)
    (ap (slice_cmp nat_cmp (folded c.args.key.now)) (sym (c.as_bytes.ensures.value ∙ c.as_str.ensures.bytes)) ∙ sym c.in-Less.ensures)

pub loop-low-preserved : goal.loop-low-preserved
loop-low-preserved c =
    let low : c.loop-low.low ≤ (c.loop-low.low + (c.loop-low.high - c.loop-low.low) / 2) = search rules in
    let high : (c.loop-low.low + (c.loop-low.high - c.loop-low.low) / 2) < c.loop-low.high = search rules in
    to_upper (keys_of (map entry_of c.args.entries.now)) (folded c.args.key.now) c.loop-low.low c.loop-low.high c.loop-low.invariant c.requires (c.loop-low.low + (c.loop-low.high - c.loop-low.low) / 2) low high _
    (key_middle c.args.entries.now (c.loop-low.low + (c.loop-low.high - c.loop-low.low) / 2) c.loop-low.high c.index-entries-middle.result high c.loop-low.invariant.within)
    (ap (slice_cmp nat_cmp (folded c.args.key.now)) (sym (c.as_bytes.ensures.value ∙ c.as_str.ensures.bytes)) ∙ sym c.in-Greater.ensures)

pub returns-in-Equal-clause-found : goal.returns-in-Equal-clause-found
returns-in-Equal-clause-found c =
    let high : (c.loop-low.low + (c.loop-low.high - c.loop-low.low) / 2) < c.loop-low.high = search rules in
    key_middle c.args.entries.now (c.loop-low.low + (c.loop-low.high - c.loop-low.low) / 2) c.loop-low.high c.index-entries-middle.result high c.loop-low.invariant.within
    ∙ ap (λ k. Some k) (sym (c.as_bytes.ensures.value ∙ c.as_str.ensures.bytes) ∙ same_key _ _ c.in-Equal.ensures)
