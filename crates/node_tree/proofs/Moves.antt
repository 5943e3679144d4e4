-- A child that leaves its parent and takes its place among the children of a node, in either order.
use Rattle.std.proofs.Common.{◌≡◌, ◌≢◌, ℕ, ◌≤◌, List, Some, None, length, sym, ap, ◌∙◌, arith}
use Rattle.node_tree.specs.declared.node.Node.{Node}
use Rattle.node_tree.specs.declared.children.Place.{Place}
use Rattle.node_tree.specs.Nodes.{IsNode, parent_of, with_node, with_children}
use Rattle.node_tree.specs.Family.{without, with_child, left_parent, left}
use Rattle.node_tree.proofs.Places.{length_with, with_twice, with_swap}
use Rattle.node_tree.proofs.Kin.{length_left}

-- the children of n, with c among them
abbrev pub put : Place → ℕ → ℕ → List Node → List Node
put place n c nodes = with_node (with_children (with_child place c)) nodes n

pub put_new : (place : Place) (nodes new : List Node) (n c : ℕ) → parent_of nodes c ≡ None → new ≡ put place n c nodes → new ≡ put place n c (left nodes c)
put_new place nodes new n c e is = is ∙ ap (λ o. put place n c (left_parent o c nodes)) (sym e)

pub put_same : (place : Place) (nodes new : List Node) (n p c : ℕ) → parent_of nodes c ≡ Some p → p ≡ n → new ≡ with_node (λ x. with_children (with_child place c) (with_children (without c) x)) nodes n → new ≡ put place n c (left nodes c)
put_same place nodes new n p c e same is =
    is
    ∙ sym (with_twice (with_children (with_child place c)) (with_children (without c)) nodes n)
    ∙ ap (λ o. put place n c (left_parent o c nodes)) (ap Some (sym same) ∙ sym e)

pub put_apart : (place : Place) (nodes between new : List Node) (n p c : ℕ) → parent_of nodes c ≡ Some p → p ≢ n → between ≡ put place n c nodes → new ≡ with_node (with_children (without c)) between p → new ≡ put place n c (left nodes c)
put_apart place nodes between new n p c e ne first is =
    is
    ∙ ap (λ l. with_node (with_children (without c)) l p) first
    ∙ with_swap (with_children (without c)) (with_children (with_child place c)) nodes p n ne
    ∙ ap (λ o. put place n c (left_parent o c nodes)) (sym e)

-- the nodes are there still
pub put_node : (place : Place) (nodes new : List Node) (n c m : ℕ) → new ≡ put place n c (left nodes c) → IsNode nodes m → IsNode new m
put_node place nodes new n c m is h =
    let size : length new ≡ length (put place n c (left nodes c)) = ap length is in
    let same : length (put place n c (left nodes c)) ≡ length (left nodes c) = length_with (with_children (with_child place c)) (left nodes c) n in
    let before : length (left nodes c) ≡ length nodes = length_left nodes c in
    let from : 1 ≤ m = h.from in
    let to : m ≤ length nodes = h.to in
    record { from = from; to = omega arith }
