use Rattle.std.proofs.Common.{arith}
use Rattle.std.proofs.lemmas.Grind.{common_steps}
use Rattle.brs_tokens.proofs.LengthsLemmas.{digits_len-long, digits_len-plain}
use Rattle.brs_tokens.proofs.scan.digits_len.Goals as goal

pub returns-then-bytes-len-eq38-clause-len : goal.returns-then-bytes-len-eq38-clause-len
returns-then-bytes-len-eq38-clause-len c = grind (arith, common_steps, digits_len-long)

pub returns-else-len-bytes-clause-len : goal.returns-else-len-bytes-clause-len
returns-else-len-bytes-clause-len c = grind (arith, common_steps, digits_len-plain)
