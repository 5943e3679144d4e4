use Rattle.chan_values.specs.Folded.{folded}
use Rattle.heap_meaning.specs.Heap.{content_at}
use Rattle.brs_heap.proofs.Calls.{got_key, missed_key}
use Rattle.brs_heap.proofs.heap.Heap.get_key.Goals as goal

pub returns-in-Ok : goal.returns-in-Ok
returns-in-Ok c = got_key (content_at c.args.self.now c.args.v.now) c.in_ok-entries.entries.now (folded c.args.key.now) c.in-Ok.at c.index-entries-at.result c.in_ok-entries.ensures.entries c.in_ok-entries.ensures.ordered c.in-Ok.ensures.found

pub returns-in-Err : goal.returns-in-Err
returns-in-Err c = missed_key (content_at c.args.self.now c.args.v.now) c.in_ok-entries.entries.now (folded c.args.key.now) c.in-Err.field-0 c.in_ok-entries.ensures.entries c.in-Err.ensures.gap
