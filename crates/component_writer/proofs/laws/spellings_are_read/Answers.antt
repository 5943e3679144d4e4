use Rattle.component_writer.proofs.Whole.{spelling_is_read}
use Rattle.component_writer.proofs.laws.spellings_are_read.Goals as goal

pub returns : goal.returns
returns c = spelling_is_read
