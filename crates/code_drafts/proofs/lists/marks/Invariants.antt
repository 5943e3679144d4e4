use Rattle.std.proofs.Common.{◌≡◌, map, take}
use Rattle.brs_grammar.specs.View.{mark, print_item_of}
use Rattle.code_relation.specs.Heads.{mark_of}
use Rattle.code_drafts.proofs.lists.marks.Given as goal

abbrev pub invariant-loop-x : goal.invariant-loop-x
invariant-loop-x l = l.marks ≡ map mark_of (map mark (map print_item_of (take l.x-index l.xs)))
