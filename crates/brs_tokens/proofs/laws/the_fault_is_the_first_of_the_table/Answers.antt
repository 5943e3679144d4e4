use Rattle.brs_tokens.proofs.Spelled.{spelled-fault, fault-spelled}
use Rattle.brs_tokens.proofs.laws.the_fault_is_the_first_of_the_table.Goals as goal

pub returns : goal.returns
returns c src first_line fault = (spelled-fault src first_line fault, fault-spelled src first_line fault)
