use Rattle.std.proofs.Common.{rules, ◌-◌}
use Rattle.plain_operations.proofs.Wraps.{digit_is}
use Rattle.plain_operations.proofs.numerals.with_digit.Goals as goal

pub returns : goal.returns
returns c = digit_is c.args.number c.from.result (c.args.digit - 48) c.ranges.number (search rules) c.from.ensures
