use Rattle.run_laws.proofs.Gathered.{gathered}
use Rattle.run_laws.proofs.laws.laws_of_run.Goals as goal

pub returns : goal.returns
returns c = gathered (record {
  runs = c.every_run.ensures;
  opens = c.every_opening.ensures;
  keeps = c.every_event_keeps.ensures;
  going = c.histories_go_on.ensures.event;
  bounded = c.no_run_passes_its_bound.ensures;
  opening_counts = c.every_count.ensures.opening;
  event_counts = c.every_count.ensures.event;
  others = c.every_other_step.ensures;
  owning = c.every_owner_stays.ensures.event;
  opening_owns = c.every_owner.ensures.opening;
  event_owns = c.every_owner.ensures.event;
  others_nodes = c.every_other_step_leaves_nodes.ensures;
})
