use Rattle.std.proofs.Common.{◌≡◌, ◌≤◌, [], ◌∷◌, length, sym, ap, subst, ◌∙◌, arith}
use Rattle.node_tree.specs.Family.{has}
use Rattle.node_tree.specs.Reach.{changed_where, render_owned, given}
use Rattle.node_tree.specs.Visited.{IsReach}
use Rattle.node_tree.specs.Closed.{IsKept}
use Rattle.node_tree.proofs.Gifts.{search_gives}
use Rattle.node_tree.proofs.Kept.{given_kept}
use Rattle.node_tree.proofs.nodes.Nodes.give_to_render.Goals as goal

pub reach-requires : goal.reach-requires
reach-requires c =
    let same : length c.as_slice.result.now ≡ length c.self.inside.nodes.items = ap length c.as_slice.ensures.value in
    let most : length c.self.inside.nodes.items ≤ 1048576 = c.self.invariant.sound.most in
    omega (arith, same, most)

pub invariant_of-self : goal.invariant_of-self
invariant_of-self c =
    let reach = subst (λ l. IsReach l c.self.inside.closed c.args.node c.in_ok-found.found.keys) c.as_slice.ensures.value c.in_ok-found.ensures in
    subst (λ l. IsKept l c.self.inside.closed)
    (sym (c.give_each.ensures ∙ ap (λ ks. changed_where (λ n. has n ks) render_owned 1 c.self.inside.nodes.items) c.as_slice-2.ensures.keys ∙ search_gives c.self.inside.nodes.items c.self.inside.closed c.args.node c.in_ok-found.found.keys c.self.invariant reach))
    (given_kept c.self.inside.nodes.items (c.args.node ∷ []) c.self.inside.closed c.self.invariant)

pub returns-clause-after : goal.returns-clause-after
returns-clause-after c =
    let reach = subst (λ l. IsReach l c.self.inside.closed c.args.node c.in_ok-found.found.keys) c.as_slice.ensures.value c.in_ok-found.ensures in
    c.give_each.ensures
    ∙ ap (λ ks. changed_where (λ n. has n ks) render_owned 1 c.self.inside.nodes.items) c.as_slice-2.ensures.keys
    ∙ search_gives c.self.inside.nodes.items c.self.inside.closed c.args.node c.in_ok-found.found.keys c.self.invariant reach
    ∙ ap (λ l. given l (c.args.node ∷ [])) c.self.view_is
