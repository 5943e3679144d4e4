use Rattle.std.proofs.Common.{◌∙◌}
use Rattle.std.specs.Map.{keys_of}
use Rattle.kind_tables.proofs.Ascending.{in_order_at}
use Rattle.kind_tables.proofs.tables.Tables.kind_at.Goals as goal

pub returns : goal.returns
returns c = c.name_at.ensures.name ∙ in_order_at (keys_of c.args.self.now.components) c.name_at.ensures.ascending c.args.at
