use Rattle.std.proofs.Common.{◌<◌, length, refl, arith}
use Rattle.kind_tables.specs.Rows.{named_handler}
use Rattle.kind_tables.proofs.Named.{added}
use Rattle.kind_tables.proofs.own.handlers.Goals as goal

pub loop-field-preserved : goal.loop-field-preserved
loop-field-preserved c =
    let all = c.args.fields.now in
    let here : c.loop-field.field-index < length all = omega arith in
    added named_handler all c.loop-field.field-index c.field-item.result here c.field-item.is c.loop-field.names c.add_folded.new.self _ _ refl c.in_ok-handler.ensures c.loop-field.invariant c.in_ok-add_folded.ensures.ok
