use Rattle.std.proofs.Common.{◌≡◌, ◌-◌, ◌≤◌}
use Rattle.std.specs.Prelude.{fold, flat_map}
use Rattle.channel_gen.specs.MadeChannel.{numbers_to, files_of, with_file}
use Rattle.channel_gen.proofs.made.add_numbered.Given as goal

abbrev pub invariant-loop-number : goal.invariant-loop-number
invariant-loop-number l =
    record {
      from_one : 1 ≤ l.number;
      so_far : l.listing ≡ fold with_file l.initial.listing (flat_map files_of (numbers_to (l.number - 1)));
    }
