use Rattle.std.proofs.Common.{◌≡◌, ◌∙◌, sym, subst, ap}
use Rattle.std.proofs.lemmas.Result.{IfOk-weaker}
use Rattle.std.specs.Prelude.{length}
use Rattle.kind_order.specs.GoodOrder.{IsGoodOrder}
use Rattle.kind_order.specs.Graph.{named_in, places_of_rows}
use Rattle.kind_order.specs.Order as spec
use Rattle.kind_order.proofs.Good.{good_order}
use Rattle.kind_order.proofs.Rows.{rows_without_cycle, whole_order}
use Rattle.kind_order.proofs.order.kind_order.Goals as goal

pub order_of-requires : goal.order_of-requires
order_of-requires c = rows_without_cycle c.args.components.now c.as_slice.result.now (ap places_of_rows c.as_slice.ensures.value ∙ c.in_ok-rows.ensures) c.requires.cycles

pub returns : goal.returns
returns c =
    let cs = c.args.components.now in
    let rows = c.as_slice.result.now in
    let is = whole_order cs rows (ap places_of_rows c.as_slice.ensures.value ∙ c.in_ok-rows.ensures) in
    let whole = IfOk-weaker c.order_of.result (λ order. order.items ≡ spec.order_of_first (length rows) (named_in rows) (length rows)) (λ order. order.items ≡ spec.kind_order cs) (λ order e. e ∙ is) c.order_of.ensures in
    record {
      order = whole;
      good = IfOk-weaker c.order_of.result (λ order. order.items ≡ spec.kind_order cs) (λ order. IsGoodOrder cs order.items) (λ order e. subst (IsGoodOrder cs) (sym e) (good_order cs c.requires.cycles)) whole;
    }
