use Rattle.std.proofs.Common.{◌≡◌}
use Rattle.std.specs.Prelude.{flat_map, codes}
use Rattle.channel_gen.specs.MadeChannel.{numbers_to}
use Rattle.channel_gen.proofs.made.script_of.Given as goal

abbrev pub invariant-loop : goal.invariant-loop
invariant-loop l = l.script ≡ flat_map (λ k. codes "round 4000\n") (numbers_to l.counter)
