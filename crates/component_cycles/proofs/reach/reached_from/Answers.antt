use Rattle.std.proofs.Common.{◌≡◌, ◌∙◌, [], ◌∷◌, ◌++◌, ap, subst, length, arith, vec_len}
use Rattle.std.specs.Option.{option_to_list}
use Rattle.component_cycles.specs.Search.{Marks}
use Rattle.component_cycles.proofs.Searches.{IsSearching, search_goes_on, search_ends, empty_list}
use Rattle.component_cycles.proofs.reach.reached_from.Goals as goal

pub loop-place-preserved : goal.loop-place-preserved
loop-place-preserved c =
    let graph = c.args.graph.now in
    let place = c.in-Some.place in
    let t0 = c.pop.new.self.items in
    let m0 = c.loop-place.marks.items in
    let m1 = c.mark_all.new.marks.items in
    let t1 = c.mark_all.new.waiting.items in
    let popped : c.loop-place.waiting.items ≡ t0 ++ place ∷ [] = c.pop.ensures.items ∙ ap (λ o. t0 ++ option_to_list o) c.in-Some.is in
    search_goes_on graph c.args.start m0 t0 place m1 t1 (subst (IsSearching graph c.args.start m0) popped c.loop-place.invariant)
    (subst (λ l. Marks l m0 t0 m1 t1) c.named_at.ensures c.in_ok-mark_all.ensures)

pub returns : goal.returns
returns c =
    let waiting = c.loop-place.waiting in
    let marks = c.loop-place.marks.items in
    let count : vec_len waiting ≡ 0 = (rw c.in_default.is at c.pop.ensures.cases).0 in
    let none : length waiting.items ≡ 0 = omega (arith, waiting.ok.0) in
    search_ends c.args.graph.now c.args.start marks (subst (IsSearching c.args.graph.now c.args.start marks) (empty_list waiting.items none) c.loop-place.invariant)
