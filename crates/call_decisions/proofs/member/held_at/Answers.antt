use Rattle.std.proofs.Common.{◌≡◌, true, false}
use Rattle.heap_meaning.specs.Heap.{content_at}
use Rattle.call_decisions.proofs.Names.{no_key}
use Rattle.call_decisions.proofs.member.held_at.Goals as goal

pub returns-else-is_folded : goal.returns-else-is_folded
returns-else-is_folded c = no_key (content_at c.args.heap.now c.args.v.now) c.args.name.now c.key_at-first.ensures.ascending (λ e. let f : false ≡ true = c.if-is_folded.ensures.1 e in absurd cc)
