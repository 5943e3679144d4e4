use Rattle.std.proofs.Common.{◌≡◌, refl, subst}
use Rattle.component_sources.specs.ComponentFaults.{AreGoodScripts, inline_scripts}
use Rattle.component_sources.specs.declared.component.ComponentFault.TheVariants.{Script}
use Rattle.component_sources.proofs.Components.{script_fault}
use Rattle.component_sources.proofs.component.checked.Goals as goal

pub returns-in-Ok-clause-good : goal.returns-in-Ok-clause-good
returns-in-Ok-clause-good c = (refl, subst (λ ss. AreGoodScripts (inline_scripts ss) c.in-Ok.scripts) c.as_slice.ensures c.in-Ok.ensures.good)

pub returns-in-Err-Fault-clause-fault : goal.returns-in-Err-Fault-clause-fault
returns-in-Err-Fault-clause-fault c fault bytes e is =
    let first = c.in-Err-Fault.ensures.fault c.in-Err-Fault.fault (cc (c.in-Err-Fault.is, c.in-Err-Fault.field-0-is, c.in-Err-Fault.fault-is)) in
    let same : Script c.in-Err-Fault.fault ≡ fault = cc in
    script_fault bytes c.args.file c.as_slice.result.now c.in-Err-Fault.fault fault c.as_slice.ensures first same is
