use Rattle.std.proofs.Common.{◌≡◌, ◌++◌, ◌-◌, ◌≤◌}
use Rattle.std.specs.Prelude.{flat_map, string_bytes}
use Rattle.channel_gen.specs.MadeChannel.{numbers_to, call_text}
use Rattle.channel_gen.proofs.files.push_calls.Given as goal

abbrev pub invariant-loop-number : goal.invariant-loop-number
invariant-loop-number l =
    record {
      from_one : 1 ≤ l.number;
      so_far : string_bytes l.text ≡ string_bytes l.initial.text ++ flat_map call_text (numbers_to (l.number - 1));
    }
