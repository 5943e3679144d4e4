use Rattle.std.proofs.Common.{◌∙◌, ◌<◌, length, arith}
use Rattle.std.specs.Map.{keys_of}
use Rattle.kind_tables.proofs.Along.{source_name}
use Rattle.kind_tables.proofs.Ascending.{in_order_at}
use Rattle.kind_tables.proofs.tables.Tables.name_at.Goals as goal

pub returns-in-empty : goal.returns-in-empty
returns-in-empty c =
    let empty : length c.args.kind.now < 1 = omega arith in
    c.name_at.ensures.name ∙ in_order_at (keys_of c.args.self.now.source) c.name_at.ensures.ascending c.args.at ∙ source_name c.args.self.now c.args.kind.now c.args.at empty
