use Rattle.std.proofs.Common.{◌≡◌, take}
use Rattle.brs_grammar.specs.Statements.{last_is_call}
use Rattle.brs_grammar.proofs.signs.last_is_call.Given as goal

abbrev pub invariant-loop-part : goal.invariant-loop-part
invariant-loop-part l = l.found ≡ last_is_call (take l.part-index l.parts)
