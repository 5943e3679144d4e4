use Rattle.std.proofs.Common.{rules, FitsSigned, w32, w64, ap, sym, ◌∙◌, lit<}
use Rattle.plain_operations.specs.Outcome.{Integer, LongInteger}
use Rattle.plain_operations.specs.Shape.{shape_of}
use Rattle.plain_operations.specs.Functions.{abs_row}
use Rattle.plain_operations.proofs.Wraps.{abs_is}
use Rattle.plain_operations.proofs.functions.call_abs.Goals as goal

pub returns-in-Narrow : goal.returns-in-Narrow
returns-in-Narrow c =
    let f : FitsSigned w32 c.in-Narrow.n = search rules in
    let g : FitsSigned w32 c.wrapping_abs.result = search rules in
    ap Integer (abs_is w32 c.in-Narrow.n c.wrapping_abs.result f g (lit< tt) c.wrapping_abs.ensures) ∙ ap (λ x. abs_row (shape_of x)) (sym c.in-Narrow.is)

pub returns-in-Wide : goal.returns-in-Wide
returns-in-Wide c =
    let f : FitsSigned w64 c.in-Wide.n = search rules in
    let g : FitsSigned w64 c.wrapping_abs-in-Wide.result = search rules in
    ap LongInteger (abs_is w64 c.in-Wide.n c.wrapping_abs-in-Wide.result f g (lit< tt) c.wrapping_abs-in-Wide.ensures) ∙ ap (λ x. abs_row (shape_of x)) (sym c.in-Wide.is)
