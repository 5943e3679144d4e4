use Rattle.std.proofs.Common.{◌≡◌, ◌++◌, ◌≤◌, length, take}
use Rattle.percent_encoding.specs.Iter.{decoded_bytes}
use Rattle.percent_encoding.specs.Percent.{percent_decode}
use Rattle.script_text.proofs.literal.decoded_character.Given as goal

abbrev pub invariant-loop-byte : goal.invariant-loop-byte
invariant-loop-byte l = record {
  next : (goal.iterator-loop-byte).can_next l.byte-iterator;
  finite : (goal.iterator-loop-byte).is_finite l.byte-iterator;
  full : length l.bytes ≡ 4;
  room : l.len ≤ 4;
  decoded : take l.len l.bytes ++ decoded_bytes l.byte-iterator ≡ percent_decode l.fn.text;
}
