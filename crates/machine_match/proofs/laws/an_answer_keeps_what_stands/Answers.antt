use Rattle.machine_match.proofs.Replies.{reply_stands}
use Rattle.machine_match.proofs.laws.an_answer_keeps_what_stands.Goals as goal

pub returns : goal.returns
returns c = reply_stands
