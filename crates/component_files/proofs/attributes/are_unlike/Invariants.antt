use Rattle.std.proofs.Common.{◌≡◌, ◌≤◌, ℕ, List, true, length, take, drop}
use Rattle.chan_values.specs.Folded.{folded}
use Rattle.xml_pieces.specs.Names.{is_in}
use Rattle.component_files.specs.Elements as spec
use Rattle.component_files.proofs.attributes.are_unlike.Given as goal

abbrev pub invariant-loop-rest : goal.invariant-loop-rest
invariant-loop-rest l = record {
  front : l.rest ≡ take (length l.rest) l.attributes;
  fits : length l.rest ≤ length l.attributes;
  known : (name : List ℕ) → is_in l.behind (folded name) ≡ spec.has_alike (drop (length l.rest) l.attributes) name;
  unlike : spec.are_unlike (drop (length l.rest) l.attributes) ≡ true;
}

abbrev pub decreases-loop-rest : goal.decreases-loop-rest
decreases-loop-rest l = length l.rest
