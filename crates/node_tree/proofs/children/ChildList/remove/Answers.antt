use Rattle.std.proofs.Common.{sym, ap, ◌∙◌}
use Rattle.std.specs.Prelude.{remove}
use Rattle.node_tree.proofs.Firsts.{removed_at, removed_none}
use Rattle.node_tree.proofs.children.ChildList.remove.Goals as goal

pub returns-in-Some : goal.returns-in-Some
returns-in-Some c = c.remove.ensures.items ∙ ap (λ ks. remove ks c.in-Some.at) c.self.view_is ∙ removed_at c.args.child c.args.self.now c.in-Some.at (sym c.place_of.ensures ∙ c.in-Some.is)

pub returns-in_default : goal.returns-in_default
returns-in_default c = removed_none c.args.child c.args.self.now (sym c.place_of.ensures ∙ c.in_default.is)
