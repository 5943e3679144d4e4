use Rattle.std.proofs.Common.{◌≡◌, Err}
use Rattle.brs_parser.specs.declared.source.ParseAnswer.TheVariants.{Fault}
use Rattle.file_faults.proofs.Sources.{syntax_fault}
use Rattle.file_faults.specs.declared.source.SourceFault.TheVariants.{Syntax}
use Rattle.file_faults.proofs.source.parsed.Goals as goal

pub returns-in-Err-Fault-clause-fault : goal.returns-in-Err-Fault-clause-fault
returns-in-Err-Fault-clause-fault c fault src first_line e are =
    let first = c.in-Err-Fault.ensures.fault c.in-Err-Fault.fault (cc (c.in-Err-Fault.is, c.in-Err-Fault.field-0-is, c.in-Err-Fault.fault-is)) in
    let same : Syntax c.in-Err-Fault.fault ≡ fault = cc in
    syntax_fault c.args.tokens.now c.in-Err-Fault.fault fault src first_line first same are
