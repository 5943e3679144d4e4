use Rattle.std.proofs.Common.{◌≡◌, ap, Err}
use Rattle.brs_parser.specs.declared.source.ParseAnswer.TheVariants.{Fault}
use Rattle.brs_parser.proofs.parsed_file.ParsedFile.parse.Goals as goal

pub returns-in-Err-clause-fault : goal.returns-in-Err-clause-fault
returns-in-Err-clause-fault c fault is =
    let answer : c.in-Err.answer ≡ Fault fault = cc in
    c.in-Err.ensures.fault fault (ap (λ a. Err a) answer)
