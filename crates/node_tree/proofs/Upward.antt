-- The way upward, node by node.
use Rattle.std.proofs.Common.{◌≡◌, ℕ, zero, suc, ◌+◌, ◌-◌, ◌<◌, true, false, List, Option, Some, None, refl, sym, ap, ◌∙◌, arith}
use Rattle.std.specs.Prelude.{◌==◌, ◌||◌}
use Rattle.node_tree.specs.declared.node.Node.{Node}
use Rattle.node_tree.specs.Nodes.{IsNode, parent_of}
use Rattle.node_tree.specs.Family.{has, upward, IsFamily}
use Rattle.node_tree.proofs.Kin.{parent_is_node}

-- the next node on the way is one
abbrev pub IsNext : List Node → Option ℕ → Type 0
IsNext nodes None = Unit {0}
IsNext nodes (Some n) = IsNode nodes n

pub parent_next : (nodes : List Node) → IsFamily nodes → (n : ℕ) (o : Option ℕ) → o ≡ parent_of nodes n → IsNext nodes o
parent_next nodes family n None e = tt
parent_next nodes family n (Some p) e = parent_is_node nodes family n p (sym e)

-- the way ends
pub ended : (most : ℕ) (nodes : List Node) (above : ℕ) → has above (upward most nodes None) ≡ false
ended zero nodes above = refl
ended (suc most) nodes above = refl

-- one node of the way
pub passed : (end i : ℕ) (nodes : List Node) (above n : ℕ) → i < end → has above (upward (end - i) nodes (Some n)) ≡ ((n == above) || has above (upward (end - (i + 1)) nodes (parent_of nodes n)))
passed end i nodes above n h =
    let next : end - i ≡ suc (end - (i + 1)) = omega arith in
    ap (λ k. has above (upward k nodes (Some n))) next

pub stays : (end i : ℕ) (nodes : List Node) (above n : ℕ) (o : Option ℕ) → i < end → (n == above) ≡ false → o ≡ parent_of nodes n → has above (upward (end - (i + 1)) nodes o) ≡ has above (upward (end - i) nodes (Some n))
stays end i nodes above n o h ne e =
    ap (λ q. has above (upward (end - (i + 1)) nodes q)) e ∙ sym (passed end i nodes above n h ∙ ap (λ b. b || has above (upward (end - (i + 1)) nodes (parent_of nodes n))) ne)

pub here : (end i : ℕ) (nodes : List Node) (above n : ℕ) → i < end → (n == above) ≡ true → has above (upward (end - i) nodes (Some n)) ≡ true
here end i nodes above n h same = passed end i nodes above n h ∙ ap (λ b. b || has above (upward (end - (i + 1)) nodes (parent_of nodes n))) same
