use Rattle.std.proofs.Common.{◌<◌, length, arith}
use Rattle.kind_tables.specs.Rows.{placed_number}
use Rattle.kind_tables.proofs.Named.{added}
use Rattle.kind_tables.proofs.Numbers.{small_at}
use Rattle.kind_tables.proofs.own.function_names.Goals as goal

pub number_of-requires : goal.number_of-requires
number_of-requires c =
    let here : c.loop-function.function-index < length c.args.functions.now = omega arith in
    small_at c.args.functions.now c.requires c.loop-function.function-index c.function-item.result here c.function-item.is

pub loop-function-preserved : goal.loop-function-preserved
loop-function-preserved c =
    let all = c.args.functions.now in
    let here : c.loop-function.function-index < length all = omega arith in
    added placed_number all c.loop-function.function-index c.function-item.result here c.function-item.is c.loop-function.names c.add.new.self _ _ c.in_ok-name.ensures c.number_of.ensures c.loop-function.invariant c.in_ok-add.ensures.ok
