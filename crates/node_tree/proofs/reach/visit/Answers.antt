use Rattle.std.proofs.Common.{◌≡◌, true, sym, ◌∙◌, rules}
use Rattle.node_tree.specs.Visited.{is_open}
use Rattle.node_tree.proofs.Searches.{visited_one}
use Rattle.node_tree.proofs.reach.visit.Goals as goal

pub returns-in-Ok : goal.returns-in-Ok
returns-in-Ok c =
    let told : c.is_open.result ≡ true = search rules in
    visited_one (is_open c.args.nodes.now c.args.closed) c.args.found.now.keys _ c.args.node (sym c.is_open.ensures ∙ told) c.in-Ok.ensures.keys c.in-Ok.ensures.unique
