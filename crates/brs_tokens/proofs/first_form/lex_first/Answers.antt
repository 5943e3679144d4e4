use Rattle.std.proofs.Common.{◌≡◌, Err, arith}
use Rattle.std.proofs.lemmas.Grind.{common_steps}
use Rattle.brs_tokens.specs.Spelling.{spelling}
use Rattle.brs_tokens.proofs.FirstLemmas.{first-no_fault}
use Rattle.brs_tokens.proofs.first_form.lex_first.Goals as goal

pub unreachable-requires : goal.unreachable-requires
unreachable-requires c =
    let fault : spelling c.args.src.now 1 ≡ Err c.in-Err-Fault.field-0-0 = rw c.in-Err-Fault.field-0-is at c.in-Err-Fault.ensures in
    first-no_fault c.args.src.now 1 c.in-Err-Fault.field-0-0 (grind (arith, common_steps)) (grind (arith, common_steps)) fault
