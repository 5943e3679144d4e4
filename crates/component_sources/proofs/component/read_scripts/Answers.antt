use Rattle.std.proofs.Common.{◌≡◌, suc, take, drop, sym, ap, subst, arith, Err}
use Rattle.file_faults.specs.declared.source.SourceAnswer.TheVariants as answer
use Rattle.component_sources.specs.ComponentFaults.{AreGoodScripts, inline_scripts}
use Rattle.component_sources.proofs.Scripts.{inline_more, fault_at, fits_at}
use Rattle.component_sources.proofs.component.read_scripts.Goals as goal

pub add_script-requires : goal.add_script-requires
add_script-requires c = record { fits = fits_at 0xffff_ffff c.args.scripts.now c.loop-script.script-index c.script-item.result c.requires.fits (omega arith) (sym c.script-item.is) }

pub loop-script-preserved : goal.loop-script-preserved
loop-script-preserved c =
    subst (λ ss. AreGoodScripts ss c.add_script.new.trees) (inline_more c.args.scripts.now c.loop-script.script-index c.script-item.result (omega arith) (sym c.script-item.is))
    (c.in-Ok.ensures.good (inline_scripts (take c.loop-script.script-index c.args.scripts.now)) c.loop-script.invariant)

pub returns-in-Err-clause-fault : goal.returns-in-Err-clause-fault
returns-in-Err-clause-fault c fault e =
    let same : c.in-Err.answer ≡ answer.Fault fault = cc in
    fault_at c.args.scripts.now c.loop-script.script-index c.script-item.result fault (omega arith) (sym c.script-item.is)
    (c.in-Err.ensures.fault fault (inline_scripts (take c.loop-script.script-index c.args.scripts.now)) (inline_scripts (drop (suc c.loop-script.script-index) c.args.scripts.now)) (ap (λ a. Err a) same) c.loop-script.invariant)
