use Rattle.std.proofs.Common.{◌≡◌, ◌++◌, length-set, length, take, sym, ap, ◌∙◌, arith, length-take}
use Rattle.script_text.proofs.LiteralsLemmas.{not_longer, one_more}
use Rattle.script_text.proofs.literal.decoded_character.Goals as goal

pub returns-then-len-eq4-clause-found : goal.returns-then-len-eq4-clause-found
returns-then-len-eq4-clause-found c c' scalar is =
    let four : length (take c.loop-byte.len c.loop-byte.bytes) ≡ 4 = omega (arith, length-take c.loop-byte.len c.loop-byte.bytes) in
    absurd (not_longer _ _ _ _ c' four (ap (λ t. take c.loop-byte.len c.loop-byte.bytes ++ t) (sym c.in-Some.ensures.steps) ∙ c.loop-byte.invariant.decoded) is)

pub loop-byte-preserved : goal.loop-byte-preserved
loop-byte-preserved c = record {
  next = tt;
  finite = tt;
  full = length-set _ _ _ ∙ c.loop-byte.invariant.full;
  room = omega arith;
  decoded = one_more _ _ _ _ c.loop-byte.len c.in-Some.byte (omega arith) c.loop-byte.invariant.decoded c.in-Some.ensures.steps;
}
