use Rattle.component_writer.proofs.Whole.{was_read}
use Rattle.component_writer.proofs.laws.read_files_can_be_written.Goals as goal

pub returns : goal.returns
returns c = was_read
