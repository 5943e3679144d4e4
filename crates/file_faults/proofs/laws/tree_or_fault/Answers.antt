use Rattle.file_faults.proofs.Sources.{tree_or_fault}
use Rattle.file_faults.proofs.laws.tree_or_fault.Goals as goal

pub returns : goal.returns
returns c = tree_or_fault c.tokens_are_the_longest_pieces.ensures c.the_fault_is_the_first_of_the_table.ensures c.tree_or_fault.ensures
