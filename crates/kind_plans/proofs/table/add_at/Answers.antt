use Rattle.std.proofs.Common.{arith}
use Rattle.std.specs.Prelude.{slice_get}
use Rattle.std.proofs.lemmas.Option.{slice_get_past}
use Rattle.kind_plans.proofs.Filling.{filled_same}
use Rattle.kind_plans.proofs.table.add_at.Goals as goal

pub returns-else-at-components : goal.returns-else-at-components
returns-else-at-components c = λ before has.
    filled_same c.args.kinds.now before (slice_get c.args.components.now c.args.at) c.args.places.now c.args.table.now (slice_get_past c.args.components.now c.args.at (omega (arith, c.if-at-components.false))) has
