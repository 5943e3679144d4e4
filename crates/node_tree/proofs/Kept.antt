-- What holds of the nodes, and what is known of their links, after each change.
use Rattle.std.proofs.Common.{◌≡◌, ℕ, ◌+◌, ◌≤◌, Bool, true, false, cond, List, [], ◌∷◌, ◌++◌, Option, Some, None, length, refl, sym, ap, subst, ◌∙◌}
use Rattle.std.specs.Prelude.{◌==◌, ◌&&◌, ◌||◌, not, option_map, if◌then◌else◌}
use Rattle.std.specs.List.{AllByRecursion, list_all}
use Rattle.std.proofs.lemmas.Bool.{eqb-true, eq-eqb}
use Rattle.chan_values.specs.Tree.{Tree}
use Rattle.field_types.specs.declared.types.FieldType.{FieldType}
use Rattle.field_types.specs.declared.plans.KindPlan.{KindPlan}
use Rattle.field_types.specs.Plans.{IsPlanTable}
use Rattle.field_types.specs.NamedNodes.{nodes_in}
use Rattle.field_types.specs.Conversion.{converted}
use Rattle.node_tree.specs.declared.field.Field.{Field}
use Rattle.node_tree.specs.declared.node.Node.{Node}
use Rattle.node_tree.specs.declared.children.Place.{Place}
use Rattle.node_tree.specs.Nodes.{node_at, IsNode, owner_of, children_of, with_node, with_children, with_parent, with_fields}
use Rattle.node_tree.specs.Fields.{field_named, fit_of, fields_after_set, after_set, after_add, has_field, added_field}
use Rattle.node_tree.specs.Family.{has, ancestry, without, left, standing, IsSound}
use Rattle.node_tree.specs.Making.{made_count, made}
use Rattle.node_tree.specs.Reach.{kin, named_by, links, reached, render_owned, given}
use Rattle.node_tree.specs.Visited.{linked_in}
use Rattle.node_tree.specs.Closed.{MayLead, IsClosedAt, IsClosed, IsKept, may_lead, stays_closed, are_alike}
use Rattle.node_tree.proofs.Stays.{owner_left}
use Rattle.node_tree.proofs.Sound.{fields_sound, standing_sound, removed_sound}
use Rattle.node_tree.proofs.MadeSound.{made_sound}
use Rattle.node_tree.proofs.Reached.{or_left, or_right, reached_link}
use Rattle.node_tree.proofs.Gifts.{is_link, given_sound, given_some, where_node}
use Rattle.node_tree.proofs.Searches.{has_left, has_right}
use Rattle.node_tree.proofs.Bounds.{all_map, Bounded, bounded_set, bounded_add, bounded_left, bounded_out_alone, bounded_standing}
use Rattle.node_tree.proofs.MadeBounds.{bounded_made}

some_same : {A : Type 0} {x y : A} → Some x ≡ Some y → x ≡ y
some_same e = cc

to_bounded : (nodes : List Node) → IsClosed nodes → Bounded MayLead MayLead nodes
to_bounded nodes h n x e = let k = h n x e in record { kin_of = k.kin_of; fields = k.fields }

pub from_bounded : (nodes : List Node) → Bounded MayLead MayLead nodes → IsClosed nodes
from_bounded nodes h n x e = let k = h n x e in record { kin_of = k.kin_of; fields = k.fields }

pub none_leads : (a : ℕ) (o : Option ℕ) → MayLead a None → MayLead a o
none_leads a o h = absurd h

-- ---- a set

may_lead_says : (owner : ℕ) (o : Option Node) → may_lead owner o ≡ true → MayLead owner (option_map (λ x. x.owner) o)
may_lead_says owner None e = absurd (differ e)
  where
    differ : false ≡ true → ⊥
    differ q = cc
may_lead_says owner (Some x) e = λ own. go (owner == 0) refl (x.owner == 0) refl e own
  where
    go : (a : Bool) → (owner == 0) ≡ a → (b : Bool) → (x.owner == 0) ≡ b → (not a || b) ≡ true → owner ≡ 0 → x.owner ≡ 0
    go true ea true eb h own = eqb-true x.owner 0 eb
    go true ea false eb h own = absurd cc
    go false ea b eb h own = absurd (let one : (owner == 0) ≡ true = eq-eqb owner 0 own in cc)

all_may : (nodes : List Node) (owner : ℕ) (ks : List ℕ) → list_all (λ n. may_lead owner (node_at nodes n)) ks ≡ true → AllByRecursion (λ n. MayLead owner (owner_of nodes n)) ks
all_may nodes owner [] e = tt
all_may nodes owner (k ∷ ks) e = let h = split (may_lead owner (node_at nodes k)) (list_all (λ n. may_lead owner (node_at nodes n)) ks) e in (may_lead_says owner (node_at nodes k) h.0, all_may nodes owner ks h.1)
  where
    split : (a b : Bool) → (a && b) ≡ true → (a ≡ true) × (b ≡ true)
    split true b e = (refl, e)
    split false b e = absurd cc

stays_says : (nodes : List Node) (closed : Bool) (owner : ℕ) (w : Tree) → stays_closed nodes closed owner w ≡ true → (closed ≡ true) × AllByRecursion (λ n. MayLead owner (owner_of nodes n)) (nodes_in w)
stays_says nodes true owner w e = (refl, all_may nodes owner (nodes_in w) e)
stays_says nodes false owner w e = absurd (differ e)
  where
    differ : false ≡ true → ⊥
    differ q = cc

pub set_kept : (nodes : List Node) (n : ℕ) (name : List ℕ) (v w : Tree) (x : Node) (f : Field) (owner : ℕ) (closed stays : Bool) → node_at nodes n ≡ Some x → owner_of nodes n ≡ Some owner → field_named name x.fields ≡ Some f → converted f.kind v ≡ Some w → stays ≡ stays_closed nodes closed owner w → IsKept nodes closed → IsKept (after_set nodes n name v) stays
set_kept nodes n name v w x f owner closed stays there own found fits is kept = record {
  sound = fields_sound (fields_after_set name v) nodes n kept.sound;
  closed = λ k. let said = stays_says nodes closed owner w (sym is ∙ k) in
      from_bounded (after_set nodes n name v) (bounded_set MayLead MayLead nodes n name v (λ y u e g. names said.1 y u e g) (to_bounded nodes (kept.closed said.0)));
}
  where
    names : AllByRecursion (λ i. MayLead owner (owner_of nodes i)) (nodes_in w) → (y : Node) (u : Tree) → node_at nodes n ≡ Some y → fit_of (field_named name y.fields) v ≡ Some u → AllByRecursion (λ i. MayLead y.owner (owner_of nodes i)) (nodes_in u)
    names all y u e g =
        let one : x ≡ y = some_same (sym there ∙ e) in
        let owner_is : owner ≡ y.owner = some_same (sym own ∙ ap (option_map (λ z. z.owner)) e) in
        let value_is : w ≡ u = some_same (sym (ap (λ z. fit_of (field_named name z.fields) v) (sym one) ∙ ap (λ o. fit_of o v) found ∙ fits) ∙ g) in
        subst (λ t. AllByRecursion (λ i. MayLead y.owner (owner_of nodes i)) (nodes_in t)) value_is (subst (λ a. AllByRecursion (λ i. MayLead a (owner_of nodes i)) (nodes_in w)) owner_is all)

pub add_kept : (nodes : List Node) (n : ℕ) (name : List ℕ) (k : FieldType) (always : Bool) (closed : Bool) → IsKept nodes closed → IsKept (after_add nodes n name k always) closed
add_kept nodes n name k always closed kept = record {
  sound = go (has_field nodes n name);
  closed = λ e. from_bounded (after_add nodes n name k always) (bounded_add MayLead MayLead nodes n name k always (to_bounded nodes (kept.closed e)));
}
  where
    go : (b : Bool) → IsSound (cond b nodes (with_node (with_fields (λ fields. fields ++ added_field name k always ∷ [])) nodes n))
    go true = kept.sound
    go false = fields_sound (λ fields. fields ++ added_field name k always ∷ []) nodes n kept.sound

-- ---- children

alike_down : (a b : ℕ) → are_alike a b ≡ true → a ≡ 0 → b ≡ 0
alike_down a b e zero_is = eqb-true b 0 (sym (ap (λ t. if t then b == 0 else not (b == 0)) (eq-eqb a 0 zero_is)) ∙ e)

alike_up : (a b : ℕ) → are_alike a b ≡ true → b ≡ 0 → a ≡ 0
alike_up a b e zero_is = go (a == 0) refl e
  where
    go : (t : Bool) → (a == 0) ≡ t → (if t then b == 0 else not (b == 0)) ≡ true → a ≡ 0
    go true f g = eqb-true a 0 f
    go false f g = absurd (let one : (b == 0) ≡ true = eq-eqb b 0 zero_is in let no : not (b == 0) ≡ false = ap not one in cc)

both_true : (a b : Bool) → (a && b) ≡ true → (a ≡ true) × (b ≡ true)
both_true true b e = (refl, e)
both_true false b e = absurd cc

pub standing_kept : (place : Place) (nodes : List Node) (n c a b : ℕ) (closed stays : Bool) → owner_of nodes n ≡ Some a → owner_of nodes c ≡ Some b → IsNode nodes n → IsNode nodes c → has c (ancestry nodes n) ≡ false → stays ≡ (closed && are_alike a b) → IsKept nodes closed → IsKept (standing place (left nodes c) n c) stays
standing_kept place nodes n c a b closed stays own_n own_c node child clear is kept = record {
  sound = standing_sound place nodes n c kept.sound node child clear;
  closed = λ k. let said = both_true closed (are_alike a b) (sym is ∙ k) in
      from_bounded (standing place (left nodes c) n c) (bounded_standing MayLead MayLead place (left nodes c) n c a b (owner_left nodes c n ∙ own_n) (owner_left nodes c c ∙ own_c) (alike_down a b said.1) (alike_up a b said.1) (bounded_left MayLead MayLead nodes c (to_bounded nodes (kept.closed said.0))));
}

pub removed_kept : (nodes : List Node) (n c : ℕ) (closed : Bool) → has c (children_of nodes n) ≡ true → IsKept nodes closed → IsKept (with_node (with_parent None) (with_node (with_children (without c)) nodes n) c) closed
removed_kept nodes n c closed h kept = record {
  sound = removed_sound nodes n c kept.sound h;
  closed = λ e. from_bounded (with_node (with_parent None) (with_node (with_children (without c)) nodes n) c) (bounded_out_alone MayLead MayLead nodes n c (to_bounded nodes (kept.closed e)));
}

-- ---- a making

pub made_kept : (nodes : List Node) (plans : List KindPlan) (place owner : ℕ) (closed : Bool) → IsPlanTable plans → length nodes + made_count plans place ≤ 1048576 → IsKept nodes closed → IsKept (made nodes plans place owner) closed
made_kept nodes plans place owner closed table room kept = record {
  sound = made_sound plans owner nodes place room kept.sound;
  closed = λ e. from_bounded (made nodes plans place owner) (bounded_made MayLead MayLead none_leads none_leads plans table owner (λ h. h) nodes place (to_bounded nodes (kept.closed e)));
}

-- ---- a gift

pub all_in : (P Q : ℕ → Type 0) (xs : List ℕ) → ((n : ℕ) → has n xs ≡ true → P n → Q n) → AllByRecursion P xs → AllByRecursion Q xs
all_in P Q [] f h = tt
all_in P Q (x ∷ xs) f h = (f x (or_left (x == x) (has x xs) (eq-eqb x x refl)) h.0, all_in P Q xs (λ n e p. f n (or_right (x == n) (has n xs) e) p) h.1)

-- the owner of a number after a gift
pub owner_given : (nodes : List Node) (roots : List ℕ) (n : ℕ) → owner_of (given nodes roots) n ≡ (if reached nodes roots n then option_map (λ x. 0) (node_at nodes n) else owner_of nodes n)
owner_given nodes roots n = ap (option_map (λ x. x.owner)) (where_node (reached nodes roots) nodes n) ∙ go (node_at nodes n) (reached nodes roots n)
  where
    go : (o : Option Node) (b : Bool) → option_map (λ x. x.owner) (option_map (λ x. if b then render_owned x else x) o) ≡ (if b then option_map (λ x. 0) o else option_map (λ x. x.owner) o)
    go None true = refl
    go None false = refl
    go (Some x) true = refl
    go (Some x) false = refl

leads_still : (nodes : List Node) (roots : List ℕ) (a k : ℕ) → MayLead a (owner_of nodes k) → MayLead a (owner_of (given nodes roots) k)
leads_still nodes roots a k h = subst (MayLead a) (sym (owner_given nodes roots k)) (go (reached nodes roots k) (node_at nodes k) h)
  where
    go : (b : Bool) (o : Option Node) → MayLead a (option_map (λ x. x.owner) o) → MayLead a (if b then option_map (λ x. 0) o else option_map (λ x. x.owner) o)
    go true None h = h
    go true (Some x) h = λ e. refl
    go false o h = h

leads_given : (nodes : List Node) (roots : List ℕ) (a k : ℕ) → reached nodes roots k ≡ true → MayLead a (owner_of nodes k) → MayLead 0 (owner_of (given nodes roots) k)
leads_given nodes roots a k r h = subst (MayLead 0) (sym (owner_given nodes roots k ∙ ap (λ b. if b then option_map (λ x. 0) (node_at nodes k) else owner_of nodes k) r)) (go (node_at nodes k) h)
  where
    go : (o : Option Node) → MayLead a (option_map (λ x. x.owner) o) → MayLead 0 (option_map (λ x. 0) o)
    go None h = h
    go (Some x) h = λ e. refl

pub linked_kin : (nodes : List Node) (n k : ℕ) (x : Node) → node_at nodes n ≡ Some x → has k (kin x) ≡ true → links nodes n k ≡ true
linked_kin nodes n k x e h = is_link nodes n k (ap (λ o. has k (linked_in o)) e ∙ has_left k (kin x) (named_by x.fields) h)

pub linked_field : (nodes : List Node) (n k : ℕ) (x : Node) → node_at nodes n ≡ Some x → has k (named_by x.fields) ≡ true → links nodes n k ≡ true
linked_field nodes n k x e h = is_link nodes n k (ap (λ o. has k (linked_in o)) e ∙ has_right k (kin x) (named_by x.fields) h)

module _ (nodes : List Node) (roots : List ℕ) (h : IsClosed nodes) where
  -- a node that is given, and one that isn't
  given_at : (n : ℕ) (x : Node) → node_at nodes n ≡ Some x → (b : Bool) → reached nodes roots n ≡ b → IsClosedAt (given nodes roots) (if b then render_owned x else x)
  given_at n x e true r = record {
    kin_of = all_in (λ k. MayLead x.owner (owner_of nodes k)) (λ k. MayLead 0 (owner_of (given nodes roots) k)) (kin x) (λ k there may. leads_given nodes roots x.owner k (reached_link nodes roots n k r (linked_kin nodes n k x e there)) may) (h n x e).kin_of;
    fields = all_in (λ k. MayLead x.owner (owner_of nodes k)) (λ k. MayLead 0 (owner_of (given nodes roots) k)) (named_by x.fields) (λ k there may. leads_given nodes roots x.owner k (reached_link nodes roots n k r (linked_field nodes n k x e there)) may) (h n x e).fields;
  }
  given_at n x e false r = record {
    kin_of = all_map (λ k. MayLead x.owner (owner_of nodes k)) (λ k. MayLead x.owner (owner_of (given nodes roots) k)) (λ k may. leads_still nodes roots x.owner k may) (kin x) (h n x e).kin_of;
    fields = all_map (λ k. MayLead x.owner (owner_of nodes k)) (λ k. MayLead x.owner (owner_of (given nodes roots) k)) (λ k may. leads_still nodes roots x.owner k may) (named_by x.fields) (h n x e).fields;
  }

  given_closed : IsClosed (given nodes roots)
  given_closed n y e = let x = given_some nodes roots n y e in subst (IsClosedAt (given nodes roots)) (sym x.2) (given_at n x.0 x.1 (reached nodes roots n) refl)

pub given_kept : (nodes : List Node) (roots : List ℕ) (closed : Bool) → IsKept nodes closed → IsKept (given nodes roots) closed
given_kept nodes roots closed kept = record { sound = given_sound nodes roots kept.sound; closed = λ e. given_closed nodes roots (kept.closed e) }
