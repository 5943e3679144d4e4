use Rattle.std.proofs.Common.{rules, pos}
use Rattle.plain_operations.specs.Texts.{leading_number}
use Rattle.plain_operations.proofs.Wraps.{neg_is}
use Rattle.plain_operations.proofs.numerals.negative_number.Goals as goal

pub returns : goal.returns
returns c = neg_is (pos (leading_number c.args.s.now)) c.leading_number.result c.wrapping_neg.result (search rules) (search rules) c.leading_number.ensures c.wrapping_neg.ensures
