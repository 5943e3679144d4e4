use Rattle.std.proofs.Common.{◌≡◌, ◌≤◌, ℕ, List, true, length, take, drop}
use Rattle.xml_pieces.specs.Names.{is_in}
use Rattle.xml_pieces.specs.Written as spec
use Rattle.xml_pieces.proofs.names.are_distinct.Given as goal

abbrev pub invariant-loop-rest : goal.invariant-loop-rest
invariant-loop-rest l = record {
  front : l.rest ≡ take (length l.rest) l.attributes;
  fits : length l.rest ≤ length l.attributes;
  known : (name : List ℕ) → is_in l.behind name ≡ spec.has_name (drop (length l.rest) l.attributes) name;
  distinct : spec.are_distinct (drop (length l.rest) l.attributes) ≡ true;
}

abbrev pub decreases-loop-rest : goal.decreases-loop-rest
decreases-loop-rest l = length l.rest
