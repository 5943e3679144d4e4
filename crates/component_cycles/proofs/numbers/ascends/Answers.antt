use Rattle.std.proofs.Common.{◌<◌, ◌≤◌, ℕ, subst, slice_index, arith, below_more}
use Rattle.std.specs.List.{All}
use Rattle.component_cycles.specs.Graph.{named_at}
use Rattle.component_cycles.proofs.Upward.{ascends_by_kinds}
use Rattle.component_cycles.proofs.numbers.ascends.Goals as goal

pub loop-place-preserved : goal.loop-place-preserved
loop-place-preserved c =
    let numbers = c.args.numbers.now in
    let graph = c.args.graph.now in
    let place = c.loop-place.place in
    let held : All (λ other. c.number_at.result ≤ slice_index numbers other) c.named_at.result.now = c.are_at_least.ensures c.if-not-are_at_least.false in
    below_more (λ p. All (λ other. slice_index numbers p ≤ slice_index numbers other) (named_at graph p)) place c.loop-place.invariant
    (subst (λ l. All (λ other. slice_index numbers place ≤ slice_index numbers other) l) c.named_at.ensures
    (subst (λ n. All (λ other. n ≤ slice_index numbers other) c.named_at.result.now) c.number_at.ensures held))

pub returns : goal.returns
returns c = λ t. ascends_by_kinds c.args.graph.now c.args.numbers.now (λ place l. c.loop-place.invariant place (omega arith))
