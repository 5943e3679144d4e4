use Rattle.std.proofs.Common.{sym, arith}
use Rattle.xml_pieces.proofs.Characters.{too_far}
use Rattle.xml_pieces.proofs.texts.char_of.Goals as goal

pub returns-then-code-gt-LAST_CHAR : goal.returns-then-code-gt-LAST_CHAR
returns-then-code-gt-LAST_CHAR c =
    rw (sym c.radix-radix.ensures.value)
    (sym (too_far c.radix-radix.result c.loop-digits.code c.loop-digits.digits.now c.args.digits.now (omega (arith, c.radix-radix.ensures.some)) (omega (arith, c.in-len1-up.len_at_least)) c.loop-digits.invariant.0
    (omega (arith, c.digit.ensures.value, c.if-code-gt-LAST_CHAR.true))))
