use Rattle.channel_meaning.proofs.Bounds.{happens_over}
use Rattle.channel_meaning.proofs.laws.nothing_happens_after_the_end.Goals as goal

pub returns : goal.returns
returns c = happens_over
