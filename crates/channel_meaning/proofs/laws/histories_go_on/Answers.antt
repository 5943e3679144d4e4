use Rattle.channel_meaning.proofs.GoingOn.{turn_more, happens_more}
use Rattle.channel_meaning.proofs.laws.histories_go_on.Goals as goal

pub returns-clause-turn : goal.returns-clause-turn
returns-clause-turn c = turn_more

pub returns-clause-event : goal.returns-clause-event
returns-clause-event c = happens_more
