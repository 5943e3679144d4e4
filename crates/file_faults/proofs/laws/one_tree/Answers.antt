use Rattle.file_faults.proofs.Sources.{one_tree}
use Rattle.file_faults.proofs.laws.one_tree.Goals as goal

pub returns : goal.returns
returns c = one_tree c.tokens_are_the_longest_pieces.ensures
