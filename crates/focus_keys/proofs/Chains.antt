-- A chain goes up to a node without a parent, and no node stands in it twice.
use Rattle.std.proofs.Common.{◌≡◌, ℕ, zero, suc, ◌+◌, ◌<◌, ◌≤◌, List, [], ◌∷◌, Option, Some, None, length, refl, sym, ap, ◌∙◌, arith}
use Rattle.std.specs.Prelude.{slice_get}
use Rattle.std.specs.Option.{ForSome}
use Rattle.std.proofs.lemmas.Option.{slice_get_within}
use Rattle.node_tree.specs.declared.node.Node.{Node}
use Rattle.node_tree.specs.Nodes.{IsNode, parent_of}
use Rattle.node_tree.specs.Family.{upward, IsSound}
use Rattle.node_tree.proofs.Ascents.{distinct_up, way_ends}
use Rattle.focus_keys.specs.Chain.{focus_chain, IsChain}
use Rattle.focus_keys.proofs.Upward.{nothing_upward}

-- the way upward, so many nodes at most
first_up : (most : ℕ) (nodes : List Node) (o : Option ℕ) → slice_get (upward (suc most) nodes o) 0 ≡ o
first_up most nodes None = refl
first_up most nodes (Some n) = refl

next_up : (nodes : List Node) (most : ℕ) (o : Option ℕ) (at n : ℕ) → slice_get (upward most nodes o) at ≡ Some n → suc at < most
    → slice_get (upward most nodes o) (suc at) ≡ parent_of nodes n
next_up nodes zero o at n e within = absurd (omega (arith, within))
next_up nodes (suc most) None at n e within = absurd cc
next_up nodes (suc zero) (Some k) at n e within = absurd (omega (arith, within))
next_up nodes (suc (suc most)) (Some k) zero n e within =
    let same : k ≡ n = cc in first_up most nodes (parent_of nodes k) ∙ ap (parent_of nodes) same
next_up nodes (suc (suc most)) (Some k) (suc at) n e within = next_up nodes (suc most) (parent_of nodes k) at n e (omega (arith, within))

chain_of : (nodes : List Node) (o : Option ℕ) → focus_chain nodes o ≡ upward (length nodes) nodes o
chain_of nodes None = sym (nothing_upward (length nodes) nodes)
chain_of nodes (Some n) = refl

short : (nodes : List Node) (most : ℕ) (o : Option ℕ) → length (upward most nodes o) ≤ most
short nodes zero o = omega arith
short nodes (suc most) None = omega arith
short nodes (suc most) (Some n) = let rest = short nodes most (parent_of nodes n) in omega arith

pub goes_up : (nodes : List Node) (focus : Option ℕ) → IsSound nodes → ForSome focus (IsNode nodes) → IsChain nodes focus (focus_chain nodes focus)
goes_up nodes focus sound node = rw (chain_of nodes focus) (record {
  begins = ap (λ way. slice_get way 0) (sym (way_ends nodes sound.family sound.rooted focus node)) ∙ first_up (length nodes) nodes focus;
  goes_up = λ at n e.
      let within = slice_get_within (upward (length nodes) nodes focus) at n e in
      let room = short nodes (length nodes) focus in
      let longer = way_ends nodes sound.family sound.rooted focus node in
      ap (λ way. slice_get way (suc at)) (sym longer)
      ∙ next_up nodes (suc (length nodes)) focus at n (ap (λ way. slice_get way at) longer ∙ e) (omega (arith, within, room));
  once = distinct_up nodes sound.rooted (length nodes) focus;
})
