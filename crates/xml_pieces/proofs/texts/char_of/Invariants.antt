use Rattle.std.proofs.Common.{◌≡◌, ◌<◌, length}
use Rattle.xml_pieces.specs.Written.{numeral}
use Rattle.xml_pieces.proofs.texts.char_of.Given as goal

abbrev pub invariant-loop-digits : goal.invariant-loop-digits
invariant-loop-digits l = (numeral l.radix l.code l.digits ≡ numeral l.radix 0 l.fn.digits) × (l.code < 0x11_0000)

abbrev pub decreases-loop-digits : goal.decreases-loop-digits
decreases-loop-digits l = length l.digits
