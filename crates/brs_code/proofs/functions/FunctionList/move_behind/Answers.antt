use Rattle.std.proofs.Common.{◌<◌, length, slice_set, slice_index_or, ap, ◌∙◌, arith}
use Rattle.std.proofs.lemmas.List.Edits.{map_over_more}
use Rattle.brs_code.specs.Join.{moved}
use Rattle.brs_code.proofs.functions.FunctionList.move_behind.Goals as goal

pub loop-function-preserved : goal.loop-function-preserved
loop-function-preserved c =
    let items = c.loop-function.function-items in
    let at = c.loop-function.function-index in
    let x = slice_index_or items at c.function-item.result in
    let within : at < length c.deref_mut-function-items.result.now = omega arith in
    ap (λ first. slice_set items at (record x { path = c.args.path; first = first })) c.saturating_add-function.ensures
    ∙ map_over_more (moved c.args.path c.args.before) c.deref_mut-function-items.result.now items at x within c.loop-function.invariant (ap (slice_index_or items at) c.function-item.is)
