use Rattle.script_text.proofs.LinesLemmas.{named_spelled}
use Rattle.script_text.proofs.read.read_key.Goals as goal

pub returns-in-None-clause-spelled : goal.returns-in-None-clause-spelled
returns-in-None-clause-spelled c = named_spelled c.args.text.now c.named_key.result c.named_key.ensures
