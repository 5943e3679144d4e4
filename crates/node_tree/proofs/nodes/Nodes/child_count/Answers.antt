use Rattle.std.proofs.Common.{◌≡◌, ◌≤◌, suc, length, ap, sym, ◌∙◌, arith}
use Rattle.node_tree.specs.Nodes.{children_in, children_of}
use Rattle.node_tree.proofs.Kin.{few_children}
use Rattle.node_tree.proofs.nodes.Nodes.child_count.Goals as goal

pub overflow_cast-result : goal.overflow_cast-result
overflow_cast-result c =
    let few : length (children_of c.args.self.now c.args.node) ≤ suc (length c.args.self.now) = few_children c.args.self.now c.node.ensures.sound.family c.args.node in
    let same : length (children_of c.args.self.now c.args.node) ≡ length c.as_slice.result.now = ap (λ o. length (children_in o)) c.node.ensures.is ∙ ap length (sym c.as_slice.ensures) in
    let most : length c.args.self.now ≤ 1048576 = c.node.ensures.sound.most in
    omega arith
