use Rattle.file_faults.proofs.Sources.{never_both}
use Rattle.file_faults.proofs.laws.never_both.Goals as goal

pub returns : goal.returns
returns c = never_both c.tokens_are_the_longest_pieces.ensures c.the_fault_is_the_first_of_the_table.ensures
