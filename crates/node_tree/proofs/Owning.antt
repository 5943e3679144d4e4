-- Who owns which node: what reads answer, and what each change keeps.
use Rattle.std.proofs.Common.{◌≡◌, ℕ, zero, suc, Bool, true, false, ◌⊎◌, inl, inr, List, [], ◌∷◌, Option, Some, None, refl, sym, ap, subst, ◌∙◌}
use Rattle.std.specs.Prelude.{ℤ, pos, negsuc, option_map, slice_get, if◌then◌else◌, ◌||◌}
use Rattle.std.specs.List.{AllByRecursion}
use Rattle.chan_values.specs.Tree.{Plain, Invalid, Boolean, Integer, LongInteger, Words, NodeNumber, Array, Keyed, Tree, Leaf, Branch, Trees, none, more}
use Rattle.field_types.specs.declared.types.FieldType.{FieldType}
use Rattle.field_types.specs.declared.types.FieldType.TheVariants as t
use Rattle.field_types.specs.declared.plans.KindPlan.{KindPlan}
use Rattle.field_types.specs.Plans.{IsPlanTable}
use Rattle.field_types.specs.Words.{is_alike}
use Rattle.field_types.specs.NamedNodes.{nodes_in_plain, nodes_in, nodes_in_all}
use Rattle.field_types.specs.Conversion.{is_integer, converted_plain, converted_item, both, all_converted, converted_items, if_array, if_pairs, converted}
use Rattle.node_tree.specs.declared.field.Field.{Field}
use Rattle.node_tree.specs.declared.node.Node.{Node}
use Rattle.node_tree.specs.declared.children.Place.{Place}
use Rattle.node_tree.specs.declared.children.Place.TheVariants.{At}
use Rattle.node_tree.specs.Nodes.{node_at, owner_of, parent_in, parent_of, children_in, fields_in, with_node, with_children, with_parent}
use Rattle.node_tree.specs.Fields.{field_named, value_of, fit_of, after_set, after_add}
use Rattle.node_tree.specs.Family.{has, without, left, standing, can_stand, moved, inserted, is_child, removed, child_at}
use Rattle.node_tree.specs.Making.{made}
use Rattle.node_tree.specs.Reach.{parent_and, kin, kin_in, named_by, leads, links, reached, render_owned, given}
use Rattle.node_tree.specs.Owned.{Of, OnlyToRender, IsNodeOwned, AreNodesOwned}
use Rattle.node_tree.proofs.Stays.{owner_left}
use Rattle.node_tree.proofs.Bounds.{all_map, all_append, all_left, all_right, kin_below, Bounded, bounded_set, bounded_add, bounded_left, bounded_out_alone, bounded_standing}
use Rattle.node_tree.proofs.MadeBounds.{bounded_made}
use Rattle.node_tree.proofs.Gifts.{given_some}
use Rattle.node_tree.proofs.Reached.{or_left, reached_link, reached_root}
use Rattle.node_tree.proofs.Kept.{all_in, owner_given, linked_kin, linked_field}

some_same : {A : Type 0} {x y : A} → Some x ≡ Some y → x ≡ y
some_same e = cc

-- ---- what fits names no more than it did

module _ (P : ℕ → Type 0) where
  plain_is : (p q : Plain) → Some p ≡ Some q → AllByRecursion P (nodes_in_plain p) → AllByRecursion P (nodes_in_plain q)
  plain_is p q e h = subst (λ r. AllByRecursion P (nodes_in_plain r)) (some_same e) h

  in_range : (b : Bool) (n : ℤ) (q : Plain) → (if b then Some (Integer n) else None) ≡ Some q → AllByRecursion P (nodes_in_plain q)
  in_range true n q e = plain_is (Integer n) q e tt
  in_range false n q e = absurd cc

  plain_names : (k : FieldType) (p q : Plain) → converted_plain k p ≡ Some q → AllByRecursion P (nodes_in_plain p) → AllByRecursion P (nodes_in_plain q)
  plain_names t.Integer (Integer n) q e h = plain_is (Integer n) q e tt
  plain_names t.Integer (LongInteger n) q e h = in_range (is_integer n) n q e
  plain_names t.LongInteger (Integer n) q e h = plain_is (LongInteger n) q e tt
  plain_names t.LongInteger (LongInteger n) q e h = plain_is (LongInteger n) q e tt
  plain_names t.Boolean (Boolean b) q e h = plain_is (Boolean b) q e tt
  plain_names t.String (Words bytes) q e h = plain_is (Words bytes) q e tt
  plain_names t.Node (NodeNumber n) q e h = plain_is (NodeNumber n) q e h
  plain_names t.Node Invalid q e h = plain_is Invalid q e tt
  plain_names _ _ q e h = absurd cc

  item_names : (k : FieldType) (u w : Tree) → converted_item k u ≡ Some w → AllByRecursion P (nodes_in u) → AllByRecursion P (nodes_in w)
  item_names k (Leaf p) w e h = go (converted_plain k p) refl e
    where
      go : (o : Option Plain) → converted_plain k p ≡ o → option_map Leaf o ≡ Some w → AllByRecursion P (nodes_in w)
      go None f g = absurd cc
      go (Some q) f g = subst (λ r. AllByRecursion P (nodes_in r)) (some_same g) (plain_names k p q f h)
  item_names k (Branch l ts) w e h = absurd cc

  all_names : (k : FieldType) (us ws : Trees) → all_converted k us ≡ Some ws → AllByRecursion P (nodes_in_all us) → AllByRecursion P (nodes_in_all ws)
  all_names k none ws e h = subst (λ r. AllByRecursion P (nodes_in_all r)) (some_same e) tt
  all_names k (more u us) ws e h = go (converted_item k u) refl (all_converted k us) refl e (λ vs f. all_names k us vs f (all_right P (nodes_in u) (nodes_in_all us) h))
    where
      go : (o : Option Tree) → converted_item k u ≡ o → (os : Option Trees) → all_converted k us ≡ os → both o os ≡ Some ws → ((vs : Trees) → all_converted k us ≡ Some vs → AllByRecursion P (nodes_in_all vs)) → AllByRecursion P (nodes_in_all ws)
      go (Some w) f (Some vs) g is rest = subst (λ r. AllByRecursion P (nodes_in_all r)) (some_same is) (all_append P (nodes_in w) (nodes_in_all vs) (item_names k u w f (all_left P (nodes_in u) (nodes_in_all us) h)) (rest vs g))
      go None f os g is rest = absurd cc
      go (Some w) f None g is rest = absurd cc

  items_names : (k : FieldType) (u w : Tree) → converted_items k u ≡ Some w → AllByRecursion P (nodes_in u) → AllByRecursion P (nodes_in w)
  items_names k (Leaf Invalid) w e h = subst (λ r. AllByRecursion P (nodes_in r)) (some_same e) tt
  items_names k (Branch Array ts) w e h = go (all_converted k ts) refl e
    where
      go : (o : Option Trees) → all_converted k ts ≡ o → option_map (Branch Array) o ≡ Some w → AllByRecursion P (nodes_in w)
      go None f g = absurd cc
      go (Some vs) f g = subst (λ r. AllByRecursion P (nodes_in r)) (some_same g) (all_names k ts vs f h)
  items_names k _ w e h = absurd cc

  array_names : (u w : Tree) → if_array u ≡ Some w → AllByRecursion P (nodes_in u) → AllByRecursion P (nodes_in w)
  array_names (Leaf Invalid) w e h = subst (λ r. AllByRecursion P (nodes_in r)) (some_same e) h
  array_names (Branch Array ts) w e h = subst (λ r. AllByRecursion P (nodes_in r)) (some_same e) h
  array_names _ w e h = absurd cc

  pairs_names : (u w : Tree) → if_pairs u ≡ Some w → AllByRecursion P (nodes_in u) → AllByRecursion P (nodes_in w)
  pairs_names (Leaf Invalid) w e h = subst (λ r. AllByRecursion P (nodes_in r)) (some_same e) h
  pairs_names (Branch (Keyed ks) ts) w e h = subst (λ r. AllByRecursion P (nodes_in r)) (some_same e) h
  pairs_names _ w e h = absurd cc

  pub converted_names : (k : FieldType) (u w : Tree) → converted k u ≡ Some w → AllByRecursion P (nodes_in u) → AllByRecursion P (nodes_in w)
  converted_names t.Integer u w e h = item_names t.Integer u w e h
  converted_names t.LongInteger u w e h = item_names t.LongInteger u w e h
  converted_names t.Boolean u w e h = item_names t.Boolean u w e h
  converted_names t.String u w e h = item_names t.String u w e h
  converted_names t.Node u w e h = item_names t.Node u w e h
  converted_names t.AssocArray u w e h = pairs_names u w e h
  converted_names t.Array u w e h = array_names u w e h
  converted_names t.StringArray u w e h = items_names t.String u w e h
  converted_names t.IntArray u w e h = items_names t.Integer u w e h
  converted_names t.BoolArray u w e h = items_names t.Boolean u w e h
  converted_names t.NodeArray u w e h = items_names t.Node u w e h

-- ---- owners

abbrev Kin : ℕ → Option ℕ → Type 0
Kin a o = o ≡ Some a

abbrev Names : ℕ → Option ℕ → Type 0
Names a o = (o ≡ Some 0) ⊎ (o ≡ Some a)

to_bounded : (nodes : List Node) → AreNodesOwned nodes → Bounded Kin Names nodes
to_bounded nodes h n x e = let k = h n x e in record { kin_of = k.kin_of_one; fields = k.fields }

from_bounded : (nodes : List Node) → Bounded Kin Names nodes → AreNodesOwned nodes
from_bounded nodes h n x e = let k = h n x e in record { kin_of_one = k.kin_of; fields = k.fields }

no_kin : (a : ℕ) (o : Option ℕ) → Kin a None → Kin a o
no_kin a o h = absurd cc

no_names : (a : ℕ) (o : Option ℕ) → Names a None → Names a o
no_names a o (inl h) = absurd cc
no_names a o (inr h) = absurd cc

of_owner : (a b : ℕ) (nodes : List Node) (n : ℕ) → (b ≡ 0) ⊎ (b ≡ a) → Of b nodes n → Of a nodes n
of_owner a b nodes n k (inl h) = inl h
of_owner a b nodes n (inl k) (inr h) = inl (h ∙ ap Some k)
of_owner a b nodes n (inr k) (inr h) = inr (h ∙ ap Some k)

-- the node that is there
of_some : (a : ℕ) (nodes : List Node) (n : ℕ) → Of a nodes n → (x : Node) × (node_at nodes n ≡ Some x) × ((x.owner ≡ 0) ⊎ (x.owner ≡ a))
of_some a nodes n h = go (node_at nodes n) refl h
  where
    go : (o : Option Node) → node_at nodes n ≡ o → (option_map (λ x. x.owner) o ≡ Some 0) ⊎ (option_map (λ x. x.owner) o ≡ Some a) → (x : Node) × (node_at nodes n ≡ Some x) × ((x.owner ≡ 0) ⊎ (x.owner ≡ a))
    go None e (inl f) = absurd cc
    go None e (inr f) = absurd cc
    go (Some x) e (inl f) = (x, e, inl (some_same f))
    go (Some x) e (inr f) = (x, e, inr (some_same f))

-- ---- changes

pub set_owned : (actor n : ℕ) (name : List ℕ) (v : Tree) (nodes : List Node) → owner_of nodes n ≡ Some actor → AllByRecursion (Of actor nodes) (nodes_in v) → AreNodesOwned nodes → AreNodesOwned (after_set nodes n name v)
set_owned actor n name v nodes own names h = from_bounded (after_set nodes n name v) (bounded_set Kin Names nodes n name v fits (to_bounded nodes h))
  where
    named : (x : Node) → node_at nodes n ≡ Some x → AllByRecursion (λ i. Names x.owner (owner_of nodes i)) (nodes_in v)
    named x e = let is : actor ≡ x.owner = some_same (sym own ∙ ap (option_map (λ z. z.owner)) e) in subst (λ a. AllByRecursion (λ i. Names a (owner_of nodes i)) (nodes_in v)) is names

    at : (x : Node) (o : Option Field) (w : Tree) → fit_of o v ≡ Some w → AllByRecursion (λ i. Names x.owner (owner_of nodes i)) (nodes_in v) → AllByRecursion (λ i. Names x.owner (owner_of nodes i)) (nodes_in w)
    at x None w e all = absurd cc
    at x (Some f) w e all = converted_names (λ i. Names x.owner (owner_of nodes i)) f.kind v w e all

    fits : (x : Node) (w : Tree) → node_at nodes n ≡ Some x → fit_of (field_named name x.fields) v ≡ Some w → AllByRecursion (λ i. Names x.owner (owner_of nodes i)) (nodes_in w)
    fits x w e f = at x (field_named name x.fields) w f (named x e)

pub add_owned : (n : ℕ) (name : List ℕ) (k : FieldType) (always : Bool) (nodes : List Node) → AreNodesOwned nodes → AreNodesOwned (after_add nodes n name k always)
add_owned n name k always nodes h = from_bounded (after_add nodes n name k always) (bounded_add Kin Names nodes n name k always (to_bounded nodes h))

pub moved_owned : (place : Place) (actor n c : ℕ) (nodes : List Node) → owner_of nodes n ≡ Some actor → owner_of nodes c ≡ Some actor → AreNodesOwned nodes → AreNodesOwned (moved place nodes n c)
moved_owned place actor n c nodes own_n own_c h = go (can_stand nodes n c)
  where
    go : (b : Bool) → AreNodesOwned (if b then standing place (left nodes c) n c else nodes)
    go true = from_bounded (standing place (left nodes c) n c) (bounded_standing Kin Names place (left nodes c) n c actor actor (owner_left nodes c n ∙ own_n) (owner_left nodes c c ∙ own_c) refl refl (bounded_left Kin Names nodes c (to_bounded nodes h)))
    go false = h

pub inserted_owned : (actor n c : ℕ) (at : ℤ) (nodes : List Node) → owner_of nodes n ≡ Some actor → owner_of nodes c ≡ Some actor → AreNodesOwned nodes → AreNodesOwned (inserted nodes n c at)
inserted_owned actor n c (pos at) nodes own_n own_c h = moved_owned (At at) actor n c nodes own_n own_c h
inserted_owned actor n c (negsuc at) nodes own_n own_c h = h

pub removed_owned : (n c : ℕ) (nodes : List Node) → AreNodesOwned nodes → AreNodesOwned (removed nodes n c)
removed_owned n c nodes h = go (is_child nodes n c)
  where
    go : (b : Bool) → AreNodesOwned (if b then with_node (with_parent None) (with_node (with_children (without c)) nodes n) c else nodes)
    go true = from_bounded _ (bounded_out_alone Kin Names nodes n c (to_bounded nodes h))
    go false = h

pub made_owned : (plans : List KindPlan) (place actor : ℕ) (nodes : List Node) → IsPlanTable plans → AreNodesOwned nodes → AreNodesOwned (made nodes plans place actor)
made_owned plans place actor nodes table h = from_bounded (made nodes plans place actor) (bounded_made Kin Names no_kin no_names plans table actor refl nodes place (to_bounded nodes h))

-- ---- reads

field_names : (P : ℕ → Type 0) (name : List ℕ) (fields : List Field) (v : Tree) → option_map (λ f. f.value) (field_named name fields) ≡ Some v → AllByRecursion P (named_by fields) → AllByRecursion P (nodes_in v)
field_names P name [] v e h = absurd cc
field_names P name (f ∷ fields) v e h = go (is_alike f.id name) e (λ g. field_names P name fields v g (all_right P (nodes_in f.value) (named_by fields) h))
  where
    go : (b : Bool) → option_map (λ g. g.value) (if b then Some f else field_named name fields) ≡ Some v → (option_map (λ g. g.value) (field_named name fields) ≡ Some v → AllByRecursion P (nodes_in v)) → AllByRecursion P (nodes_in v)
    go true g ih = subst (λ u. AllByRecursion P (nodes_in u)) (some_same g) (all_left P (nodes_in f.value) (named_by fields) h)
    go false g ih = ih g

pub get_owned : (actor n : ℕ) (name : List ℕ) (v : Tree) (nodes : List Node) → Of actor nodes n → value_of nodes n name ≡ Some v → AreNodesOwned nodes → AllByRecursion (Of actor nodes) (nodes_in v)
get_owned actor n name v nodes o e h =
    let x = of_some actor nodes n o in
    all_map (Of x.0.owner nodes) (Of actor nodes) (λ k. of_owner actor x.0.owner nodes k x.2) (nodes_in v)
    (field_names (Of x.0.owner nodes) name x.0.fields v (ap (λ q. option_map (λ f. f.value) (field_named name (fields_in q))) (sym x.1) ∙ e) (h n x.0 x.1).fields)

get_all : (P : ℕ → Type 0) (ks : List ℕ) (i c : ℕ) → slice_get ks i ≡ Some c → AllByRecursion P ks → P c
get_all P [] i c e h = absurd cc
get_all P (k ∷ ks) zero c e h = subst P (some_same e) h.0
get_all P (k ∷ ks) (suc i) c e h = get_all P ks i c e h.1

kin_of_owner : (actor n : ℕ) (nodes : List Node) (x : Node) → ((x.owner ≡ 0) ⊎ (x.owner ≡ actor)) → (k : ℕ) → owner_of nodes k ≡ Some x.owner → Of actor nodes k
kin_of_owner actor n nodes x own k e = of_owner actor x.owner nodes k own (inr e)

pub child_owned : (actor n c : ℕ) (at : ℤ) (nodes : List Node) → Of actor nodes n → child_at nodes n at ≡ Some c → AreNodesOwned nodes → Of actor nodes c
child_owned actor n c (pos at) nodes o e h =
    let x = of_some actor nodes n o in
    kin_of_owner actor n nodes x.0 x.2 c
    (get_all (λ k. owner_of nodes k ≡ Some x.0.owner) x.0.children at c (ap (λ q. slice_get (children_in q) at) (sym x.1) ∙ e) (kin_below (λ k. owner_of nodes k ≡ Some x.0.owner) x.0.parent x.0.children (h n x.0 x.1).kin_of_one))
child_owned actor n c (negsuc at) nodes o e h = absurd cc

first_kin : (P : ℕ → Type 0) (o : Option ℕ) (ks : List ℕ) (p : ℕ) → o ≡ Some p → AllByRecursion P (parent_and o ks) → P p
first_kin P None ks p e h = absurd cc
first_kin P (Some q) ks p e h = subst P (some_same e) h.0

pub parent_owned : (actor n p : ℕ) (nodes : List Node) → Of actor nodes n → parent_of nodes n ≡ Some p → AreNodesOwned nodes → Of actor nodes p
parent_owned actor n p nodes o e h =
    let x = of_some actor nodes n o in
    kin_of_owner actor n nodes x.0 x.2 p (first_kin (λ k. owner_of nodes k ≡ Some x.0.owner) x.0.parent x.0.children p (ap parent_in (sym x.1) ∙ e) (h n x.0 x.1).kin_of_one)

-- ---- gifts

pub given_to_render : (nodes : List Node) (roots : List ℕ) → OnlyToRender nodes (given nodes roots)
given_to_render nodes roots n actor e = go (reached nodes roots n) (node_at nodes n) (owner_given nodes roots n) e
  where
    go : (b : Bool) (o : Option Node) → owner_of (given nodes roots) n ≡ (if b then option_map (λ x. 0) o else option_map (λ x. x.owner) o) → option_map (λ x. x.owner) o ≡ Some actor → Of actor (given nodes roots) n
    go b None is f = absurd cc
    go true (Some x) is f = inl is
    go false (Some x) is f = inr (is ∙ f)

of_more : (actor : ℕ) (before after : List Node) → OnlyToRender before after → (n : ℕ) → Of actor before n → Of actor after n
of_more actor before after g n (inl e) = render (g n 0 e)
  where
    render : Of 0 after n → Of actor after n
    render (inl f) = inl f
    render (inr f) = inl f
of_more actor before after g n (inr e) = g n actor e

made_render : (nodes : List Node) (roots : List ℕ) (k b : ℕ) → reached nodes roots k ≡ true → owner_of nodes k ≡ Some b → owner_of (given nodes roots) k ≡ Some 0
made_render nodes roots k b r e = owner_given nodes roots k ∙ ap (λ t. if t then option_map (λ x. 0) (node_at nodes k) else owner_of nodes k) r ∙ go (node_at nodes k) e
  where
    go : (o : Option Node) → option_map (λ x. x.owner) o ≡ Some b → option_map {U = ℕ} (λ x. 0) o ≡ Some 0
    go None f = absurd cc
    go (Some x) f = refl

pub given_roots : (actor : ℕ) (nodes : List Node) (roots : List ℕ) (n : ℕ) → has n roots ≡ true → Of actor nodes n → owner_of (given nodes roots) n ≡ Some 0
given_roots actor nodes roots n root (inl e) = made_render nodes roots n 0 (reached_root nodes roots n root) e
given_roots actor nodes roots n root (inr e) = made_render nodes roots n actor (reached_root nodes roots n root) e

-- a link leads back from kin
linked_back : (nodes : List Node) (n k b : ℕ) (x : Node) → node_at nodes n ≡ Some x → has k (kin x) ≡ true → owner_of nodes k ≡ Some b → links nodes k n ≡ true
linked_back nodes n k b x e there own = go (node_at nodes k) refl own
  where
    near : (a c d : Bool) → c ≡ true → ((a || c) || d) ≡ true
    near true c d f = refl
    near false c d f = or_left c d f

    go : (o : Option Node) → node_at nodes k ≡ o → option_map (λ y. y.owner) o ≡ Some b → leads o (node_at nodes n) k n ≡ true
    go None f g = absurd cc
    go (Some y) f g = near (has n (kin y)) (has k (kin_in (node_at nodes n))) (has n (named_by y.fields)) (ap (λ q. has k (kin_in q)) e ∙ there)

module _ (nodes : List Node) (roots : List ℕ) (h : AreNodesOwned nodes) where
  -- kin of a node that isn't given isn't given
  kin_stays : (n k : ℕ) (x : Node) → node_at nodes n ≡ Some x → reached nodes roots n ≡ false → has k (kin x) ≡ true → owner_of nodes k ≡ Some x.owner → owner_of (given nodes roots) k ≡ Some x.owner
  kin_stays n k x e out there own = go (reached nodes roots k) refl
    where
      no : false ≡ true → ⊥
      no q = cc

      go : (b : Bool) → reached nodes roots k ≡ b → owner_of (given nodes roots) k ≡ Some x.owner
      go true r = absurd (no (sym out ∙ reached_link nodes roots k n r (linked_back nodes n k x.owner x e there own)))
      go false r = owner_given nodes roots k ∙ ap (λ t. if t then option_map (λ y. 0) (node_at nodes k) else owner_of nodes k) r ∙ own

  some_owner : (a k : ℕ) → Of a nodes k → (b : ℕ) × (owner_of nodes k ≡ Some b)
  some_owner a k (inl e) = (0, e)
  some_owner a k (inr e) = (a, e)

  owned_at : (n : ℕ) (x : Node) → node_at nodes n ≡ Some x → (b : Bool) → reached nodes roots n ≡ b → IsNodeOwned (given nodes roots) (if b then render_owned x else x)
  owned_at n x e true r = record {
    kin_of_one = all_in (λ k. owner_of nodes k ≡ Some x.owner) (λ k. owner_of (given nodes roots) k ≡ Some 0) (kin x) (λ k there own. made_render nodes roots k x.owner (reached_link nodes roots n k r (linked_kin nodes n k x e there)) own) (h n x e).kin_of_one;
    fields = all_in (Of x.owner nodes) (Of 0 (given nodes roots)) (named_by x.fields) (λ k there own. let o = some_owner x.owner k own in inl (made_render nodes roots k o.0 (reached_link nodes roots n k r (linked_field nodes n k x e there)) o.1)) (h n x e).fields;
  }
  owned_at n x e false r = record {
    kin_of_one = all_in (λ k. owner_of nodes k ≡ Some x.owner) (λ k. owner_of (given nodes roots) k ≡ Some x.owner) (kin x) (λ k there own. kin_stays n k x e r there own) (h n x e).kin_of_one;
    fields = all_map (Of x.owner nodes) (Of x.owner (given nodes roots)) (of_more x.owner nodes (given nodes roots) (given_to_render nodes roots)) (named_by x.fields) (h n x e).fields;
  }

  pub given_owned : AreNodesOwned (given nodes roots)
  given_owned n y e = let x = given_some nodes roots n y e in subst (IsNodeOwned (given nodes roots)) (sym x.2) (owned_at n x.0 x.1 (reached nodes roots n) refl)
