use Rattle.std.proofs.Common.{◌≡◌}
use Rattle.component_sources.specs.declared.component.ComponentFault.TheVariants.{Element}
use Rattle.component_sources.proofs.Components.{good_is, element_fault}
use Rattle.component_sources.proofs.ScriptLines.{scripts_fit}
use Rattle.component_sources.proofs.component.component_of.Goals as goal

pub checked-requires : goal.checked-requires
checked-requires c = record { fits = scripts_fit c.args.bytes.now c.in-Ok.file c.requires c.in-Ok.ensures.file }

pub returns-in-Ok-clause-file : goal.returns-in-Ok-clause-file
returns-in-Ok-clause-file c = good_is c.args.bytes.now c.in-Ok.file c.checked.result c.checked.ensures.good c.in-Ok.ensures.file

pub returns-in-Ok-clause-fault : goal.returns-in-Ok-clause-fault
returns-in-Ok-clause-fault c fault e = c.checked.ensures.fault fault c.args.bytes.now e c.in-Ok.ensures.file

pub returns-in-Err-Fault-clause-fault : goal.returns-in-Err-Fault-clause-fault
returns-in-Err-Fault-clause-fault c fault e =
    let first = c.in-Err-Fault.ensures.fault c.in-Err-Fault.fault.line (cc (c.in-Err-Fault.is, c.in-Err-Fault.field-0-is, c.in-Err-Fault.fault-is)) in
    let same : Element c.in-Err-Fault.fault ≡ fault = cc in
    element_fault c.args.bytes.now c.in-Err-Fault.fault fault first same
