use Rattle.std.proofs.Common.{◌≡◌, ◌+◌, subst, arith}
use Rattle.component_cycles.specs.Graph.{IsWithoutSteps}
use Rattle.component_cycles.proofs.graph.push_empties.Goals as goal

pub returns : goal.returns
returns c =
    let all : c.loop-done._done ≡ c.args.count = omega arith in
    λ kinds w. subst (λ n. IsWithoutSteps (kinds + n) c.loop-done.graph.items) all (c.loop-done.invariant kinds w)
