use Rattle.std.proofs.Common.{◌≡◌, drop}
use Rattle.std.specs.Str.{chars, encode_utf8_all}
use Rattle.std.specs.Str.Iter.{chars_rest}
use Rattle.plain_operations.proofs.parts.rest_after.Given as goal

abbrev pub invariant-loop-i : goal.invariant-loop-i
invariant-loop-i l =
    ((goal.iterator-loop-i).can_next l.rest × (goal.iterator-loop-i).is_finite l.rest) × (chars_rest l.rest ≡ encode_utf8_all (drop l._i (chars l.s)))
