use Rattle.std.proofs.Common.{◌≡◌, ◌↔◌, drop}
use Rattle.script_text.specs.Literals.{escaped}
use Rattle.script_text.proofs.literal.is_escaped.Given as goal

abbrev pub invariant-loop-byte : goal.invariant-loop-byte
invariant-loop-byte l = (l.text ≡ escaped l.bytes) ↔ (l.rest ≡ escaped (drop l.byte-index l.bytes))
