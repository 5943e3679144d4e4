use Rattle.std.proofs.Common.{◌+◌, ◌<◌, ◌∷◌, [], length, get_or, take, sym, subst, arith}
use Rattle.std.proofs.lemmas.List.{take_more}
use Rattle.component_cycles.specs.Search.{Marks}
use Rattle.component_cycles.proofs.Searches.{marks_more}
use Rattle.component_cycles.proofs.reach.mark_all.Goals as goal

pub loop-place-preserved : goal.loop-place-preserved
loop-place-preserved c =
    let all = c.args.places.now in
    let i = c.loop-place.place-index in
    let here : i < length all = omega arith in
    let m0 = c.args.marks.now.items in
    let t0 = c.args.waiting.now.items in
    let m1 = c.loop-place.marks.items in
    let t1 = c.loop-place.waiting.items in
    let m2 = c.mark.new.marks.items in
    let t2 = c.mark.new.waiting.items in
    subst (λ l. Marks l m0 t0 m2 t2) (sym (take_more all i 0 here)) (marks_more (take i all) (get_or all i 0 ∷ []) m0 t0 m1 t1 m2 t2 c.loop-place.invariant c.in_ok-mark.ensures)
