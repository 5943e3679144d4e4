use Rattle.std.proofs.Common.{◌<◌, length, arith}
use Rattle.std.proofs.lemmas.Result.{err_from_is_err_and}
use Rattle.folder_rules.proofs.Lists.{each_next}
use Rattle.component_faults.proofs.Turns.{turn_refused}
use Rattle.folder_rules.specs.ScriptFaults.{missing_script}
use Rattle.script_faults.specs.Sources.{all_sources}
use Rattle.script_faults.proofs.missing.check_each_script.Goals as goal

pub returns-in_err-check_script : goal.returns-in_err-check_script
returns-in_err-check_script c =
    let here : c.loop-script.script-index < length c.args.scripts.now = omega arith in
    let p = err_from_is_err_and c.from_residual.result c.from_residual.ensures.1 in
    rw (p.1, p.2)
    (turn_refused (Unit {0}) (Unit {0}) (missing_script (all_sources c.args.table.now) c.args.path.now) c.args.scripts.now c.loop-script.script-index c.script-item.result here c.script-item.is c.loop-script.invariant
    c.in_err-check_script.field-0.0 c.in_err-check_script.ensures)

pub loop-script-preserved : goal.loop-script-preserved
loop-script-preserved c =
    let here : c.loop-script.script-index < length c.args.scripts.now = omega arith in
    each_next (missing_script (all_sources c.args.table.now) c.args.path.now) c.args.scripts.now c.loop-script.script-index c.script-item.result here c.script-item.is c.loop-script.invariant c.in_ok-check_script.ensures
