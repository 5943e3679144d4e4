use Rattle.channel_run.specs.Written.{good_line}
use Rattle.channel_run.proofs.Moves.{prefix_whole}
use Rattle.channel_run.proofs.commands.tell_good.Goals as goal

pub returns-in-Ok-clause-front : goal.returns-in-Ok-clause-front
returns-in-Ok-clause-front g c = prefix_whole (g.O.Sink.held c.args.out.now) (g.O.Sink.held c.write_good.new.out) good_line c.in-Ok.ensures.whole
