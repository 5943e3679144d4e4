use Rattle.kind_order.proofs.Good.{good_order}
use Rattle.kind_order.proofs.laws.order_is_good.Goals as goal

pub returns : goal.returns
returns c = good_order
