use Rattle.std.proofs.Common.{rules}
use Rattle.plain_operations.proofs.Wraps.{count_is}
use Rattle.plain_operations.proofs.numerals.count_integer.Goals as goal

pub returns : goal.returns
returns c = count_is c.args.n c.cast_signed.result (search rules) c.cast_signed.ensures
