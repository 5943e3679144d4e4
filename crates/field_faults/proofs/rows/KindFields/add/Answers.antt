use Rattle.std.proofs.Common.{◌≡◌, length, arith, refl}
use Rattle.field_faults.proofs.KindRows.{field_more}
use Rattle.field_faults.proofs.rows.KindFields.add.Goals as goal

pub returns-in-Ok : goal.returns-in-Ok
returns-in-Ok c =
    let count : c.len.result ≡ length c.args.self.now.types.items = omega (arith, c.args.self.now.types.ok.0) in
    field_more c.args.self.now (record { ids = c.add.new.self; types = c.push.new.self; base = c.args.self.now.base }) c.args.id c.args.holds c.len.result count c.in_ok-add.ensures.ok c.in-Ok.ensures.items refl
