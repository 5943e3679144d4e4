use Rattle.node_tree.proofs.Owning.{given_to_render, given_roots}
use Rattle.node_tree.proofs.ownership_laws.gifts_go_to_render.Goals as goal

pub returns-clause-only : goal.returns-clause-only
returns-clause-only c = given_to_render

pub returns-clause-roots : goal.returns-clause-roots
returns-clause-roots c = given_roots
