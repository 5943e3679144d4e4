use Rattle.channel_run.specs.Refusal.{refusal_line}
use Rattle.channel_run.proofs.Moves.{prefix_whole}
use Rattle.channel_run.proofs.commands.refuse.Goals as goal

pub returns-in-Ok-clause-front : goal.returns-in-Ok-clause-front
returns-in-Ok-clause-front g c = prefix_whole (g.O.Sink.held c.args.out.now) (g.O.Sink.held c.write_refusal.new.out) (refusal_line c.args.fault) c.in-Ok.ensures.whole
