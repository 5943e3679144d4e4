-- A gift changes no link, so that two gifts are one.
use Rattle.std.proofs.Common.{◌≡◌, ℕ, zero, suc, Bool, true, false, List, [], ◌∷◌, ◌++◌, Option, Some, None, refl, sym, ap, ◌∙◌, length}
use Rattle.std.specs.Prelude.{◌==◌, ◌||◌, ◌&&◌, option_map, if◌then◌else◌}
use Rattle.node_tree.specs.declared.node.Node.{Node}
use Rattle.node_tree.specs.Nodes.{node_at}
use Rattle.node_tree.specs.Reach.{leads, links, ways, reached, changed_where, render_owned, given}
use Rattle.node_tree.proofs.Gifts.{where_node, where_length}
use Rattle.node_tree.proofs.Searches.{changed_twice, same_test}

abbrev after : Bool → Node → Node
after b x = if b then render_owned x else x

leads_after : (s t : Bool) (o q : Option Node) (m n : ℕ) → leads (option_map (after s) o) (option_map (after t) q) m n ≡ leads o q m n
leads_after s t None q m n = refl
leads_after true t (Some x) None m n = refl
leads_after false t (Some x) None m n = refl
leads_after true true (Some x) (Some y) m n = refl
leads_after true false (Some x) (Some y) m n = refl
leads_after false true (Some x) (Some y) m n = refl
leads_after false false (Some x) (Some y) m n = refl

module _ (p : ℕ → Bool) (nodes : List Node) where
  links_stay : (m n : ℕ) → links (changed_where p render_owned 1 nodes) m n ≡ links nodes m n
  links_stay m n =
      ap (λ o. leads o (node_at (changed_where p render_owned 1 nodes) n) m n) (where_node p nodes m)
      ∙ ap (λ q. leads (option_map (after (p m)) (node_at nodes m)) q m n) (where_node p nodes n)
      ∙ leads_after (p m) (p n) (node_at nodes m) (node_at nodes n) m n

  ways_stay : (k m n : ℕ) → ways (changed_where p render_owned 1 nodes) k m n ≡ ways nodes k m n
  ways_stay zero m n = ap (λ t. (m == n) || t) (links_stay m n)
  ways_stay (suc k) m n =
      let new : List Node = changed_where p render_owned 1 nodes in
      ap (λ t. t || (ways new k m (suc k) && ways new k (suc k) n)) (ways_stay k m n)
      ∙ ap (λ t. ways nodes k m n || (t && ways new k (suc k) n)) (ways_stay k m (suc k))
      ∙ ap (λ t. ways nodes k m n || (ways nodes k m (suc k) && t)) (ways_stay k (suc k) n)

  reached_stays : (roots : List ℕ) (n : ℕ) → reached (changed_where p render_owned 1 nodes) roots n ≡ reached nodes roots n
  reached_stays [] n = refl
  reached_stays (r ∷ roots) n =
      let new : List Node = changed_where p render_owned 1 nodes in
      ap (λ k. ways new k r n || reached new roots n) (where_length p 1 nodes)
      ∙ ap (λ t. t || reached new roots n) (ways_stay (length nodes) r n)
      ∙ ap (λ t. ways nodes (length nodes) r n || t) (reached_stays roots n)

or_assoc : (a b c : Bool) → (a || (b || c)) ≡ ((a || b) || c)
or_assoc true b c = refl
or_assoc false b c = refl

reached_both : (nodes : List Node) (first second : List ℕ) (n : ℕ) → reached nodes (first ++ second) n ≡ (reached nodes first n || reached nodes second n)
reached_both nodes [] second n = refl
reached_both nodes (r ∷ first) second n = ap (λ t. ways nodes (length nodes) r n || t) (reached_both nodes first second n) ∙ or_assoc (ways nodes (length nodes) r n) (reached nodes first n) (reached nodes second n)

pub every_two_gifts : (nodes : List Node) (first second : List ℕ) → given (given nodes first) second ≡ given nodes (first ++ second)
every_two_gifts nodes first second =
    same_test (reached (given nodes first) second) (reached nodes second) 1 (given nodes first) (reached_stays (reached nodes first) nodes second)
    ∙ changed_twice (reached nodes first) (reached nodes second) 1 nodes
    ∙ same_test (λ n. reached nodes first n || reached nodes second n) (reached nodes (first ++ second)) 1 nodes (λ n. sym (reached_both nodes first second n))
