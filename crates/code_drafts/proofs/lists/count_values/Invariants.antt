use Rattle.std.proofs.Common.{◌≡◌, ◌≤◌, map, take}
use Rattle.brs_grammar.specs.View.{shown, print_item_of}
use Rattle.code_relation.specs.Heads.{count}
use Rattle.code_drafts.proofs.lists.count_values.Given as goal

abbrev pub invariant-loop-x : goal.invariant-loop-x
invariant-loop-x l = (l.values ≡ count (shown (map print_item_of (take l.x-index l.xs)))) × (l.values ≤ l.x-index)
