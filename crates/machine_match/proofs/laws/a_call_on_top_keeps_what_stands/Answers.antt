use Rattle.machine_match.proofs.Replies.{put_stands}
use Rattle.machine_match.proofs.laws.a_call_on_top_keeps_what_stands.Goals as goal

pub returns : goal.returns
returns c = put_stands
