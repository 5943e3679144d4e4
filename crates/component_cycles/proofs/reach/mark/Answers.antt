use Rattle.std.proofs.Common.{◌≡◌, ◌∙◌, ◌<◌, ◌∷◌, [], false, true, length, get_or, sym, subst, arith}
use Rattle.std.proofs.Math.ListN.{set}
use Rattle.std.proofs.lemmas.List.{get_or_read}
use Rattle.std.proofs.lemmas.Result.{on_ok_weaker}
use Rattle.component_cycles.specs.Search.{Marks}
use Rattle.component_cycles.proofs.Searches.{mark_new}
use Rattle.component_cycles.proofs.reach.mark.Goals as goal

pub returns : goal.returns
returns c =
    let place = c.args.place in
    let marks = c.args.marks.now.items in
    let waiting = c.args.waiting.now.items in
    let there : place < length marks = omega (arith, c.args.marks.now.ok.0) in
    let off : get_or marks place false ≡ false = sym (get_or_read marks place _ there c.index.ensures false) ∙ c.if-index.false in
    on_ok_weaker c.push.result (λ e. subst (Marks (place ∷ []) marks waiting (set marks place true)) (sym e) (mark_new place marks waiting there off)) c.push.ensures
