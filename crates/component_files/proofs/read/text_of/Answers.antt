use Rattle.component_files.proofs.Answering.{mark_shorter}
use Rattle.component_files.proofs.read.text_of.Goals as goal

pub returns-in-Some-clause-shorter : goal.returns-in-Some-clause-shorter
returns-in-Some-clause-shorter c = mark_shorter c.args.bytes.now c.in-Some.text.now c.in-Some.ensures
