use Rattle.std.proofs.Common.{◌≡◌, ◌<◌, length, arith}
use Rattle.std.proofs.lemmas.Result.{err_from_is_err_and}
use Rattle.channel_folder.proofs.FileTurns.{hold_next, fault_next, short_at}
use Rattle.channel_folder.proofs.files.add_files.Goals as goal

pub add_file-requires : goal.add_file-requires
add_file-requires c =
    let here : c.loop-file.file-index < length c.args.files.now = omega arith in
    record { short = short_at c.args.files.now c.loop-file.file-index c.file-item.result c.requires.short here c.file-item.is }

pub loop-file-preserved : goal.loop-file-preserved
loop-file-preserved c = λ before hold.
    let here : c.loop-file.file-index < length c.args.files.now = omega arith in
    hold_next before c.args.files.now c.loop-file.file-index c.file-item.result c.loop-file.contents c.add_file.new.contents here c.file-item.is (c.loop-file.invariant before hold) c.in_ok-add_file.ensures.held

pub returns-in_err-add_file-clause-fault : goal.returns-in_err-add_file-clause-fault
returns-in_err-add_file-clause-fault c = λ f before after e hold.
    let here : c.loop-file.file-index < length c.args.files.now = omega arith in
    let p = err_from_is_err_and c.from_residual.result c.from_residual.ensures.1 in
    fault_next before c.args.files.now after c.loop-file.file-index c.file-item.result c.loop-file.contents f here c.file-item.is (c.loop-file.invariant before hold)
    (c.in_err-add_file.ensures.fault f (cc (p.1, p.2, e)))
