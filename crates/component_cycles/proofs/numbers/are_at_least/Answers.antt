use Rattle.std.proofs.Common.{◌<◌, ◌≤◌, ℕ, length, get_or, subst, slice_index, arith}
use Rattle.std.specs.List.{All}
use Rattle.std.proofs.lemmas.List.{take_all}
use Rattle.std.proofs.lemmas.List.Elements.{All-more}
use Rattle.component_cycles.proofs.numbers.are_at_least.Goals as goal

pub loop-place-preserved : goal.loop-place-preserved
loop-place-preserved c =
    let all = c.args.places.now in
    let i = c.loop-place.place-index in
    let here : i < length all = omega arith in
    let holds : c.args.least ≤ slice_index c.args.numbers.now (get_or all i 0) = subst (λ n. c.args.least ≤ n) c.number_at.ensures c.if-number_at-least.false in
    All-more (λ place. c.args.least ≤ slice_index c.args.numbers.now place) all i 0 here c.loop-place.invariant holds

pub returns : goal.returns
returns c =
    let all = c.args.places.now in
    let done : length all ≤ c.loop-place.place-index = omega arith in
    λ t. subst (All (λ place. c.args.least ≤ slice_index c.args.numbers.now place)) (take_all c.loop-place.place-index all done) c.loop-place.invariant
