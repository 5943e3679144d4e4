use Rattle.copy_meaning.proofs.Round.{laid_down, laid_down_leaves}
use Rattle.copy_meaning.proofs.laws.laid_down_unfolds.Goals as goal

pub returns-clause-unfolds : goal.returns-clause-unfolds
returns-clause-unfolds c = laid_down

pub returns-clause-leaves : goal.returns-clause-leaves
returns-clause-leaves c = λ store t p. laid_down_leaves store t 64 65536 p.bounds.depth p.bounds.parts p.keys
