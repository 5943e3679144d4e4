-- Each change keeps what holds of the nodes at each moment.
use Rattle.std.proofs.Common.{◌≡◌, ℕ, zero, suc, Bool, true, false, cond, List, [], ◌∷◌, ◌++◌, Some, None, length, refl, ap, ◌∙◌}
use Rattle.std.specs.Prelude.{ℤ, pos, negsuc, not, option_map, slice_get}
use Rattle.field_types.specs.declared.types.FieldType.{FieldType}
use Rattle.field_types.specs.declared.plans.KindPlan.{KindPlan}
use Rattle.node_tree.specs.declared.node.Node.{Node}
use Rattle.node_tree.specs.declared.children.Place.{Place}
use Rattle.node_tree.specs.declared.children.Place.TheVariants.{At}
use Rattle.node_tree.specs.Nodes.{IsNode, owner_of, with_node, with_fields, with_parent, with_children}
use Rattle.node_tree.specs.Fields.{has_field, added_field, after_add}
use Rattle.node_tree.specs.Family.{has, ancestry, without, left, standing, moved, inserted, is_child, removed, IsSound}
use Rattle.node_tree.specs.Making.{made_node, numbers, children_given, numbered, all_numbered, kind_subtree, made}
use Rattle.node_tree.proofs.Sound.{fields_sound, standing_sound, removed_sound}
use Rattle.node_tree.proofs.Numbered.{get_front, owner_some}

pub add_sound : (nodes : List Node) (n : ℕ) (name : List ℕ) (k : FieldType) (always : Bool) → IsSound nodes → IsSound (after_add nodes n name k always)
add_sound nodes n name k always sound = go (has_field nodes n name)
  where
    go : (b : Bool) → IsSound (cond b nodes (with_node (with_fields (λ fields. fields ++ added_field name k always ∷ [])) nodes n))
    go true = sound
    go false = fields_sound (λ fields. fields ++ added_field name k always ∷ []) nodes n sound

pub moved_sound : (place : Place) (nodes : List Node) (n c : ℕ) → IsSound nodes → IsNode nodes n → IsNode nodes c → IsSound (moved place nodes n c)
moved_sound place nodes n c sound node child = go (has c (ancestry nodes n)) refl
  where
    go : (b : Bool) → has c (ancestry nodes n) ≡ b → IsSound (cond (not b) (standing place (left nodes c) n c) nodes)
    go true e = sound
    go false e = standing_sound place nodes n c sound node child e

pub inserted_sound : (nodes : List Node) (n c : ℕ) (at : ℤ) → IsSound nodes → IsNode nodes n → IsNode nodes c → IsSound (inserted nodes n c at)
inserted_sound nodes n c (pos at) sound node child = moved_sound (At at) nodes n c sound node child
inserted_sound nodes n c (negsuc at) sound node child = sound

pub taken_sound : (nodes : List Node) (n c : ℕ) → IsSound nodes → IsSound (removed nodes n c)
taken_sound nodes n c sound = go (is_child nodes n c) refl
  where
    go : (b : Bool) → is_child nodes n c ≡ b → IsSound (cond b (with_node (with_parent None) (with_node (with_children (without c)) nodes n) c) nodes)
    go true e = removed_sound nodes n c sound e
    go false e = sound

-- ---- owners after a making

pub made_stays : (nodes : List Node) (plans : List KindPlan) (place actor n owner : ℕ) → owner_of nodes n ≡ Some owner → owner_of (made nodes plans place actor) n ≡ Some owner
made_stays nodes plans place actor n owner e = go n e
  where
    go : (n : ℕ) → owner_of nodes n ≡ Some owner → owner_of (made nodes plans place actor) n ≡ Some owner
    go zero e = absurd cc
    go (suc i) e = let x = owner_some nodes i owner e in ap (option_map (λ z. z.owner)) (get_front nodes (numbered plans actor None (suc (length nodes)) (kind_subtree plans place)) i x.0 x.1) ∙ ap Some x.2

at_length : {A : Type 0} (xs : List A) (y : A) (ys : List A) → slice_get (xs ++ y ∷ ys) (length xs) ≡ Some y
at_length [] y ys = refl
at_length (x ∷ xs) y ys = at_length xs y ys

pub made_own : (nodes : List Node) (plans : List KindPlan) (place actor : ℕ) → owner_of (made nodes plans place actor) (suc (length nodes)) ≡ Some actor
made_own nodes plans place actor =
    let first : ℕ = suc (length nodes) in
    ap (option_map (λ z. z.owner)) (at_length nodes (made_node plans actor None place [] (numbers (suc first) (children_given (length plans) plans (Some place)))) (all_numbered plans actor (Some first) (suc first) (children_given (length plans) plans (Some place))))
