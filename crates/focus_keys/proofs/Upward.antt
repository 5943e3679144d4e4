-- The way upward from a node.
use Rattle.std.proofs.Common.{◌≡◌, ℕ, zero, suc, ◌+◌, ◌-◌, ◌<◌, ◌≤◌, Bool, true, false, List, [], ◌∷◌, ◌++◌, Option, Some, None, length, refl, sym, ap, subst, ◌∙◌, arith}
use Rattle.std.specs.Prelude.{slice_get}
use Rattle.std.specs.Option.{ForSome}
use Rattle.std.proofs.lemmas.Bool.{eq-eqb}
use Rattle.std.proofs.lemmas.Option.{slice_get_within}
use Rattle.std.proofs.lemmas.List.{append-nil, append_assoc}
use Rattle.node_tree.specs.declared.node.Node.{Node}
use Rattle.node_tree.specs.Nodes.{node_at, IsNode, parent_of, children_of, children_in}
use Rattle.node_tree.specs.Family.{upward, is, once_where, times, IsFamily}
use Rattle.focus_keys.specs.Chain.{focus_chain}

pub nothing_upward : (most : ℕ) (nodes : List Node) → upward most nodes None ≡ []
nothing_upward zero nodes = refl
nothing_upward (suc most) nodes = refl

pub whole_upward : (nodes : List Node) (focus : Option ℕ) → upward (length nodes) nodes focus ≡ focus_chain nodes focus
whole_upward nodes None = nothing_upward (length nodes) nodes
whole_upward nodes (Some n) = refl

is_node_at : (nodes : List Node) (n : ℕ) (x : Node) → node_at nodes n ≡ Some x → IsNode nodes n
is_node_at nodes zero x e = absurd cc
is_node_at nodes (suc place) x e = record { from = omega arith; to = slice_get_within nodes place x e }

pub parent_is_node : (nodes : List Node) → IsFamily nodes → (n p : ℕ) → parent_of nodes n ≡ Some p → IsNode nodes p
parent_is_node nodes family n p e = there (node_at nodes p) refl (ap (λ o. times n (children_of nodes p)) e ∙ family.once p n ∙ ap (λ o. once_where (is p o)) e)
  where
    nobody : children_of nodes p ≡ [] → times n (children_of nodes p) ≡ 1 → ⊥
    nobody empty once = let none : times n (children_of nodes p) ≡ 0 = ap (times n) empty in omega arith

    there : (o : Option Node) → node_at nodes p ≡ o → times n (children_of nodes p) ≡ once_where (is p (Some p)) → IsNode nodes p
    there None none once = absurd (nobody (ap children_in none) (once ∙ ap once_where (eq-eqb p p refl)))
    there (Some x) some once = is_node_at nodes p x some

pub parents_are_nodes : (nodes : List Node) → IsFamily nodes → (n : ℕ) (o : Option ℕ) → parent_of nodes n ≡ o → ForSome o (IsNode nodes)
parents_are_nodes nodes family n o e = λ p h. parent_is_node nodes family n p (e ∙ h)

-- one node more
pub one_up : (nodes : List Node) (left n : ℕ) (chain done whole : List ℕ) (o next : Option ℕ)
    → 0 < left → o ≡ Some n → chain ++ upward left nodes o ≡ whole → done ≡ chain ++ n ∷ [] → next ≡ parent_of nodes n
    → done ++ upward (left - 1) nodes next ≡ whole
one_up nodes zero n chain done whole o next some is so_far more up = absurd (omega arith)
one_up nodes (suc most) n chain done whole o next some is so_far more up =
    let e : suc most - 1 ≡ most = omega arith in
    rw e
    (ap (λ d. d ++ upward most nodes next) more
    ∙ append_assoc chain (n ∷ []) (upward most nodes next)
    ∙ ap (λ r. chain ++ (n ∷ upward most nodes r)) up
    ∙ ap (λ q. chain ++ upward (suc most) nodes q) (sym is)
    ∙ so_far)
