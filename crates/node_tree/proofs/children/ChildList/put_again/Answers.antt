use Rattle.std.proofs.Common.{◌≡◌, sym, ap, ◌∙◌, length, arith}
use Rattle.std.specs.Prelude.{insert, remove}
use Rattle.node_tree.specs.Family.{place_in, with_child}
use Rattle.node_tree.proofs.Firsts.{removed_at, absent}
use Rattle.node_tree.proofs.children.ChildList.put_again.Goals as goal

pub unreachable-requires : goal.unreachable-requires
unreachable-requires c = absent c.args.child c.args.self.now (sym c.place_of.ensures ∙ c.in_default.is) c.requires

pub returns : goal.returns
returns c =
    c.in-Ok.ensures.items
    ∙ ap (λ at. insert c.remove.new.self.items at c.args.child) (c.place_in-to.ensures ∙ (let same : c.len.result ≡ length c.remove.new.self.items = omega arith in ap (place_in c.args.place) same))
    ∙ ap (λ ks. with_child c.args.place c.args.child ks) (c.remove.ensures.items ∙ ap (λ ks. remove ks c.in-Some.at) c.self.view_is ∙ removed_at c.args.child c.args.self.now c.in-Some.at (sym c.place_of.ensures ∙ c.in-Some.is))
