-- Owners of nodes that are made, and of nodes above and below others.
use Rattle.std.proofs.Common.{◌≡◌, ℕ, zero, suc, ◌+◌, ◌≤◌, Bool, true, false, List, [], ◌∷◌, ◌++◌, Option, Some, None, refl, sym, ap, ◌∙◌, subst, inl, inr, ◌⊎◌, length, arith}
use Rattle.std.specs.Prelude.{slice_get, option_map, flat_map, find, nat_le, ◌==◌, if◌then◌else◌}
use Rattle.std.specs.List.{AllByRecursion}
use Rattle.field_types.specs.declared.plans.KindPlan.{KindPlan}
use Rattle.field_types.specs.Plans.{IsPlanTable}
use Rattle.node_tree.specs.declared.node.Node.{Node}
use Rattle.node_tree.specs.Nodes.{node_at, owner_of, parent_of, children_in, children_of}
use Rattle.node_tree.specs.Family.{upward, ancestry, appended}
use Rattle.node_tree.specs.Subtree.{Subtree, subtree, Subtrees, none, more, size}
use Rattle.node_tree.specs.Making.{numbered, all_numbered, kind_subtree, made, made_count}
use Rattle.node_tree.specs.Owned.{Of, OnlyToRender, AreNodesOwned}
use Rattle.node_tree.specs.Reach.{kin}
use Rattle.node_tree.specs.Search.{preorder, descendants, has_id, found}
use Rattle.node_tree.specs.declared.children.Place.TheVariants.{Last}
use Rattle.node_tree.proofs.Bounds.{kin_below}
use Rattle.node_tree.proofs.Numbered.{get_front}
use Rattle.node_tree.proofs.Stays.{owner_moved}
use Rattle.node_tree.proofs.Owning.{made_owned, moved_owned, parent_owned}
use Rattle.focus_keys.specs.Chain.{focus_chain, taken_from, after_set}
use Rattle.brs_meaning.specs.Nodes.{Each, IfSome}
use Rattle.world_meaning.specs.Making.{numbers_from, below}
use Rattle.world_meaning.specs.NodesMade.{nodes_made, most_nodes}
use Rattle.owner_laws.proofs.Naming.{each_append, each_find, each_flat, each_to, from_all}
use Rattle.owner_laws.proofs.Places.{render_is, of_render, same_owners}

-- ---- nodes that are made

abbrev AllOf : ℕ → List Node → Type 0
AllOf owner nodes = Each (λ x. x.owner ≡ owner) nodes

module _ (plans : List KindPlan) (owner : ℕ) where
  mutual
    one_new : (parent : Option ℕ) (first : ℕ) (t : Subtree) → AllOf owner (numbered plans owner parent first t)
    one_new parent first (subtree place values children) = (refl, all_new (Some first) (suc first) children)

    all_new : (parent : Option ℕ) (first : ℕ) (ts : Subtrees) → AllOf owner (all_numbered plans owner parent first ts)
    all_new parent first none = tt
    all_new parent first (more t ts) = each_append (λ x. x.owner ≡ owner) (numbered plans owner parent first t) (all_numbered plans owner parent (first + size t) ts) (one_new parent first t) (all_new parent (first + size t) ts)

-- a node of this owner, or none
abbrev pub Made : ℕ → List Node → ℕ → Type 0
Made owner nodes n = (node_at nodes n ≡ None) ⊎ (owner_of nodes n ≡ Some owner)

behind : (owner : ℕ) (xs ys : List Node) (i : ℕ) → length xs ≤ i → AllOf owner ys → (slice_get (xs ++ ys) i ≡ None) ⊎ (option_map (λ x. x.owner) (slice_get (xs ++ ys) i) ≡ Some owner)
behind owner [] [] i le h = inl refl
behind owner [] (y ∷ ys) zero le h = inr (ap Some h.0)
behind owner [] (y ∷ ys) (suc i) le h = behind owner [] ys i (omega arith) h.1
behind owner (x ∷ xs) ys zero le h = absurd (omega arith)
behind owner (x ∷ xs) ys (suc i) le h = behind owner xs ys i (omega arith) h

made_new : (plans : List KindPlan) (nodes : List Node) (kind owner n : ℕ) → length nodes ≤ n → Made owner (made nodes plans kind owner) (suc n)
made_new plans nodes kind owner n le = behind owner nodes (numbered plans owner None (suc (length nodes)) (kind_subtree plans kind)) n le (one_new plans owner None (suc (length nodes)) (kind_subtree plans kind))

no_node : (a : ℕ) → None ≡ Some a → ⊥
no_node a e = cc

front_owner : (xs ys : List Node) (i a : ℕ) → option_map (λ x. x.owner) (slice_get xs i) ≡ Some a → option_map (λ x. x.owner) (slice_get (xs ++ ys) i) ≡ Some a
front_owner [] ys i a e = absurd (no_node a e)
front_owner (x ∷ xs) ys zero a e = e
front_owner (x ∷ xs) ys (suc i) a e = front_owner xs ys i a e

pub made_others : (plans : List KindPlan) (nodes : List Node) (kind owner n a : ℕ) → owner_of nodes n ≡ Some a → owner_of (made nodes plans kind owner) n ≡ Some a
made_others plans nodes kind owner zero a e = absurd (no_node a e)
made_others plans nodes kind owner (suc i) a e = front_owner nodes (numbered plans owner None (suc (length nodes)) (kind_subtree plans kind)) i a e

pub first_of : (x : Node) (xs ys : List Node) → slice_get (xs ++ x ∷ ys) (length xs) ≡ Some x
first_of x [] ys = refl
first_of x (z ∷ xs) ys = first_of x xs ys

pub made_first : (plans : List KindPlan) (nodes : List Node) (kind owner : ℕ) → owner_of (made nodes plans kind owner) (suc (length nodes)) ≡ Some owner
made_first plans nodes kind owner = go (kind_subtree plans kind)
  where
    go : (t : Subtree) → option_map (λ x. x.owner) (slice_get (nodes ++ numbered plans owner None (suc (length nodes)) t) (length nodes)) ≡ Some owner
    go (subtree place values children) = ap (option_map (λ x. x.owner)) (first_of _ nodes (all_numbered plans owner (Some (suc (length nodes))) (suc (suc (length nodes))) children))

-- what a making leaves, where there is room
pub record IsMaking (before after : List Node) (owner : ℕ) : Type 0 where
  pub owned : AreNodesOwned after
  pub others : (n a : ℕ) → owner_of before n ≡ Some a → owner_of after n ≡ Some a
  pub first : owner_of after (suc (length before)) ≡ Some owner
  pub new : (n : ℕ) → length before ≤ n → Made owner after (suc n)

-- the nodes of a making are those of `made`
pub room : (plans : List KindPlan) (nodes : List Node) (kind owner : ℕ) (after : List Node) → nodes_made plans nodes kind owner ≡ Some after → made nodes plans kind owner ≡ after
room plans nodes kind owner after e = by_room (nat_le (length nodes + made_count plans kind) most_nodes) e
  where
    by_room : (b : Bool) → (if b then Some (made nodes plans kind owner) else None) ≡ Some after → made nodes plans kind owner ≡ after
    by_room false q = absurd cc
    by_room true q = cc

pub making : (plans : List KindPlan) (nodes : List Node) (kind owner : ℕ) (after : List Node) → IsPlanTable plans → nodes_made plans nodes kind owner ≡ Some after → AreNodesOwned nodes → IsMaking nodes after owner
making plans nodes kind owner after table e h =
    subst (λ l. IsMaking nodes l owner) (room plans nodes kind owner after e)
    (record { owned = made_owned plans kind owner nodes table h; others = made_others plans nodes kind owner; first = made_first plans nodes kind owner; new = made_new plans nodes kind owner })

-- the new node stands below a parent of the same owner, where there is one
pub below_making : (before after : List Node) (owner : ℕ) (parent : Option ℕ) → IfSome (λ p. owner_of before p ≡ Some owner) parent → IsMaking before after owner → IsMaking before (below parent after (suc (length before))) owner
below_making before after owner None h m = m
below_making before after owner (Some p) h m =
    let n : ℕ = suc (length before) in
    record {
      owned = moved_owned Last owner p n after (m.others p owner h) m.first m.owned;
      others = λ i a e. owner_moved Last after p n i ∙ m.others i a e;
      first = owner_moved Last after p n n ∙ m.first;
      new = λ i le. still i (m.new i le);
    }
  where
    still : (i : ℕ) → Made owner after (suc i) → Made owner (appended after p (suc (length before))) (suc i)
    still i (inr e) = inr (owner_moved Last after p (suc (length before)) (suc i) ∙ e)
    still i (inl e) = inl (gone (slice_get (appended after p (suc (length before))) i) (owner_moved Last after p (suc (length before)) (suc i) ∙ ap (option_map (λ x. x.owner)) e))
      where
        gone : (o : Option Node) → option_map (λ x. x.owner) o ≡ None → o ≡ None
        gone None q = refl
        gone (Some x) q = absurd cc

pub making_to_render : (before after : List Node) (owner : ℕ) → IsMaking before after owner → OnlyToRender before after
making_to_render before after owner m n a e = inr (m.others n a e)

pub each_new : (before after : List Node) (owner : ℕ) → IsMaking before after owner → (first count : ℕ) → length before ≤ first → Each (Made owner after) (numbers_from (suc first) count)
each_new before after owner m first zero le = tt
each_new before after owner m first (suc count) le =
    let same : suc (suc first) ≡ suc first + 1 = omega arith in
    (m.new first le, subst (λ k. Each (Made owner after) (numbers_from k count)) same (each_new before after owner m (suc first) count (omega arith)))

-- ---- above and below

children_owned : (a n : ℕ) (nodes : List Node) → AreNodesOwned nodes → Of a nodes n → Each (Of a nodes) (children_of nodes n)
children_owned a n nodes h o = go (node_at nodes n) refl
  where
    owned : (x : Node) → node_at nodes n ≡ Some x → (k : ℕ) → owner_of nodes k ≡ Some x.owner → Of a nodes k
    owned x e k f = at o
      where
        at : Of a nodes n → Of a nodes k
        at (inl q) = inl (f ∙ sym (ap (option_map (λ z. z.owner)) e) ∙ q)
        at (inr q) = inr (f ∙ sym (ap (option_map (λ z. z.owner)) e) ∙ q)

    go : (p : Option Node) → node_at nodes n ≡ p → Each (Of a nodes) (children_in p)
    go None e = tt
    go (Some x) e = each_to (λ k. owner_of nodes k ≡ Some x.owner) (Of a nodes) (owned x e) x.children (from_all (λ k. owner_of nodes k ≡ Some x.owner) x.children (kin_below (λ k. owner_of nodes k ≡ Some x.owner) x.parent x.children (h n x e).kin_of_one))

preorder_owned : (most a n : ℕ) (nodes : List Node) → AreNodesOwned nodes → Of a nodes n → Each (Of a nodes) (preorder most nodes n)
preorder_owned zero a n nodes h o = tt
preorder_owned (suc most) a n nodes h o = (o, each_flat (Of a nodes) (Of a nodes) (preorder most nodes) (λ k q. preorder_owned most a k nodes h q) (children_of nodes n) (children_owned a n nodes h o))

pub found_owned : (a n : ℕ) (id : List ℕ) (nodes : List Node) → AreNodesOwned nodes → Of a nodes n → IfSome (Of a nodes) (found nodes n id)
found_owned a n id nodes h o = each_find (Of a nodes) (has_id nodes id) (descendants nodes n) (each_flat (Of a nodes) (Of a nodes) (preorder (length nodes) nodes) (λ k q. preorder_owned (length nodes) a k nodes h q) (children_of nodes n) (children_owned a n nodes h o))

pub parent_if : (a n : ℕ) (nodes : List Node) → AreNodesOwned nodes → Of a nodes n → IfSome (Of a nodes) (parent_of nodes n)
parent_if a n nodes h o = go (parent_of nodes n) refl
  where
    go : (p : Option ℕ) → parent_of nodes n ≡ p → IfSome (Of a nodes) p
    go None e = tt
    go (Some p) e = parent_owned a n p nodes o e h

upward_owned : (most : ℕ) (a : ℕ) (p : Option ℕ) (nodes : List Node) → AreNodesOwned nodes → IfSome (Of a nodes) p → Each (Of a nodes) (upward most nodes p)
upward_owned zero a p nodes h o = tt
upward_owned (suc most) a None nodes h o = tt
upward_owned (suc most) a (Some n) nodes h o = (o, upward_owned most a (parent_of nodes n) nodes h (parent_if a n nodes h o))

pub chain_owned : (nodes : List Node) (focus : Option ℕ) → AreNodesOwned nodes → IfSome (Of 0 nodes) focus → Each (Of 0 nodes) (focus_chain nodes focus)
chain_owned nodes None h o = tt
chain_owned nodes (Some n) h o = upward_owned (length nodes) 0 (Some n) nodes h o

pub focus_owned : (nodes : List Node) (focus : Option ℕ) (n : ℕ) (on : Bool) → Of 0 nodes n → IfSome (Of 0 nodes) focus → IfSome (Of 0 nodes) (after_set focus n on)
focus_owned nodes focus n true o h = o
focus_owned nodes None n false o h = tt
focus_owned nodes (Some m) n false o h = go (m == n)
  where
    go : (b : Bool) → IfSome (Of 0 nodes) (if b then None else Some m)
    go true = tt
    go false = h
