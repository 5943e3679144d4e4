use Rattle.file_faults.proofs.Sources.{one_fault}
use Rattle.file_faults.proofs.laws.one_fault.Goals as goal

pub returns : goal.returns
returns c = one_fault c.tokens_are_the_longest_pieces.ensures c.the_fault_is_the_first_of_the_table.ensures
