use Rattle.actor_meaning.specs.declared.outcome.Outcome.TheVariants.{Raised}
use Rattle.actor_errors.specs.Raising.{place_of, Ended}
use Rattle.actor_errors.proofs.Ends.{carries_end, told_at, ends_step}
use Rattle.actor_errors.proofs.ending.raise.Goals as goal

pub returns-clause-raises : goal.returns-clause-raises
returns-clause-raises c =
    let shown = Raised c.args.error (place_of c.head-head.result c.args.line) in
    let ended : Ended c.args.error c.args.line c.args.heap.now c.args.frames.now c.release_calls.new.heap c.release_calls.new.frames shown = record {
      frames = c.release_calls.ensures.frames;
      carries = carries_end c.args.heap.now c.release_calls.new.heap c.args.frames.now c.release_calls.new.frames c.release_calls.ensures.moves c.release_calls.ensures.frames;
      told = told_at c.args.frames.now c.args.error c.head-head.result c.args.line c.head-head.ensures;
    } in
    record { ended = ended; is_step = ends_step c.args.error c.args.line c.args.heap.now c.release_calls.new.heap c.args.frames.now c.release_calls.new.frames shown ended }
