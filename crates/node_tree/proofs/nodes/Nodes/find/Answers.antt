use Rattle.std.proofs.Common.{◌≡◌, suc, false, ◌++◌, map, length, sym, ap, ◌∙◌, arith, rules}
use Rattle.std.specs.Prelude.{reverse, find}
use Rattle.std.specs.List.{flat_map}
use Rattle.node_tree.specs.Nodes.{children_of}
use Rattle.node_tree.specs.Pending.{pending_at}
use Rattle.node_tree.specs.Search.{has_id, preorder}
use Rattle.node_tree.proofs.Visits.{begun, visited, here_found, less_over, less_visited}
use Rattle.node_tree.proofs.nodes.Nodes.find.Goals as goal

pub loop-next-init : goal.loop-next-init
loop-next-init c =
    let same : c.len.result ≡ length c.self.inside.nodes.items = omega arith in
    begun (has_id c.args.self.now c.args.id.now) c.args.self.now c.len.result c.args.node c.push_children.new.pending.items
    (c.in_ok-push_children.ensures ∙ ap (λ l. l ++ map (pending_at c.len.result) (reverse (children_of c.args.self.now c.args.node))) c.new-pending.ensures.items)
    ∙ ap (λ k. find (has_id c.args.self.now c.args.id.now) (flat_map (preorder k c.args.self.now) (children_of c.args.self.now c.args.node))) (same ∙ ap length c.self.view_is)

pub loop-next-smaller-in_default-checked_sub : goal.loop-next-smaller-in_default-checked_sub
loop-next-smaller-in_default-checked_sub c = less_over c.args.self.now c.loop-next.pending.items c.pop.new.self.items c.in-Some.next c.in-Some.ensures.items (omega (arith, c.in_default-checked_sub.ensures))

pub returns-then-has_id : goal.returns-then-has_id
returns-then-has_id c =
    let some : c.in-Some.next.levels ≡ suc c.in-Some-checked_sub.levels = omega (arith, c.in-Some-checked_sub.ensures) in
    here_found (has_id c.args.self.now c.args.id.now) c.args.self.now c.loop-next.pending.items c.pop.new.self.items c.in-Some.next c.in-Some-checked_sub.levels _ c.in-Some.ensures.items some (sym c.has_id.ensures ∙ c.if-has_id.true) c.loop-next.invariant

pub loop-next-smaller : goal.loop-next-smaller
loop-next-smaller c =
    let some : c.in-Some.next.levels ≡ suc c.in-Some-checked_sub.levels = omega (arith, c.in-Some-checked_sub.ensures) in
    less_visited c.args.self.now c.loop-next.pending.items c.pop.new.self.items c.push_children-in-Some.new.pending.items c.in-Some.next c.in-Some-checked_sub.levels c.in-Some.ensures.items some c.in_ok-push_children-2.ensures

pub loop-next-preserved : goal.loop-next-preserved
loop-next-preserved c =
    let some : c.in-Some.next.levels ≡ suc c.in-Some-checked_sub.levels = omega (arith, c.in-Some-checked_sub.ensures) in
    let missed : c.has_id.result ≡ false = search rules in
    visited (has_id c.args.self.now c.args.id.now) c.args.self.now c.loop-next.pending.items c.pop.new.self.items c.push_children-in-Some.new.pending.items c.in-Some.next c.in-Some-checked_sub.levels _ c.in-Some.ensures.items some (sym c.has_id.ensures ∙ missed) c.in_ok-push_children-2.ensures c.loop-next.invariant
