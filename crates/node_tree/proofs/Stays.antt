-- What a change of nodes leaves as it was.
use Rattle.std.proofs.Common.{◌≡◌, ℕ, Bool, true, false, cond, List, [], ◌∷◌, ◌++◌, Option, Some, None, length, refl, ◌∙◌}
use Rattle.std.specs.Prelude.{ℤ, pos, negsuc, option_map}
use Rattle.field_types.specs.declared.types.FieldType.{FieldType}
use Rattle.node_tree.specs.declared.field.Field.{Field}
use Rattle.node_tree.specs.declared.node.Node.{Node}
use Rattle.node_tree.specs.declared.children.Place.{Place}
use Rattle.node_tree.specs.declared.children.Place.TheVariants.{At}
use Rattle.node_tree.specs.Nodes.{node_at, with_node, with_fields, with_children, with_parent, owner_of, parent_of}
use Rattle.node_tree.specs.Fields.{has_field, added_field, after_add}
use Rattle.node_tree.specs.Family.{without, with_child, left_parent, left, standing, can_stand, moved, inserted, is_child, removed}
use Rattle.node_tree.proofs.Places.{read_with, length_with}
use Rattle.node_tree.proofs.Kin.{length_left}

-- ---- what a change of fields leaves

module _ {B : Type 0} (r : Option Node → B) (keeps : (f : List Field → List Field) (x : Node) → r (Some (with_fields f x)) ≡ r (Some x)) where
  pub stays_at_add : (nodes : List Node) (n i : ℕ) (name : List ℕ) (t : FieldType) (always : Bool) → r (node_at (after_add nodes n name t always) i) ≡ r (node_at nodes i)
  stays_at_add nodes n i name t always = go (has_field nodes n name)
    where
      go : (b : Bool) → r (node_at (cond b nodes (with_node (with_fields (λ fields. fields ++ added_field name t always ∷ [])) nodes n)) i) ≡ r (node_at nodes i)
      go true = refl
      go false = read_with r (with_fields (λ fields. fields ++ added_field name t always ∷ [])) (keeps (λ fields. fields ++ added_field name t always ∷ [])) nodes n i

-- ---- what a change of children leaves

pub owner_left : (nodes : List Node) (c i : ℕ) → owner_of (left nodes c) i ≡ owner_of nodes i
owner_left nodes c i = go (parent_of nodes c)
  where
    go : (o : Option ℕ) → owner_of (left_parent o c nodes) i ≡ owner_of nodes i
    go None = refl
    go (Some p) = read_with (option_map (λ x. x.owner)) (with_children (without c)) (λ x. refl) nodes p i

owner_standing : (place : Place) (nodes : List Node) (n c i : ℕ) → owner_of (standing place nodes n c) i ≡ owner_of nodes i
owner_standing place nodes n c i =
    read_with (option_map (λ x. x.owner)) (with_parent (Some n)) (λ x. refl) (with_node (with_children (with_child place c)) nodes n) c i
    ∙ read_with (option_map (λ x. x.owner)) (with_children (with_child place c)) (λ x. refl) nodes n i

pub owner_moved : (place : Place) (nodes : List Node) (n c i : ℕ) → owner_of (moved place nodes n c) i ≡ owner_of nodes i
owner_moved place nodes n c i = go (can_stand nodes n c)
  where
    go : (b : Bool) → owner_of (cond b (standing place (left nodes c) n c) nodes) i ≡ owner_of nodes i
    go true = owner_standing place (left nodes c) n c i ∙ owner_left nodes c i
    go false = refl

pub owner_inserted : (nodes : List Node) (n c i : ℕ) (at : ℤ) → owner_of (inserted nodes n c at) i ≡ owner_of nodes i
owner_inserted nodes n c i (pos at) = owner_moved (At at) nodes n c i
owner_inserted nodes n c i (negsuc at) = refl

pub owner_removed : (nodes : List Node) (n c i : ℕ) → owner_of (removed nodes n c) i ≡ owner_of nodes i
owner_removed nodes n c i = go (is_child nodes n c)
  where
    go : (b : Bool) → owner_of (cond b (with_node (with_parent None) (with_node (with_children (without c)) nodes n) c) nodes) i ≡ owner_of nodes i
    go true =
        read_with (option_map (λ x. x.owner)) (with_parent None) (λ x. refl) (with_node (with_children (without c)) nodes n) c i
        ∙ read_with (option_map (λ x. x.owner)) (with_children (without c)) (λ x. refl) nodes n i
    go false = refl

-- ---- no node more, and none fewer

pub length_add : (nodes : List Node) (n : ℕ) (name : List ℕ) (t : FieldType) (always : Bool) → length (after_add nodes n name t always) ≡ length nodes
length_add nodes n name t always = go (has_field nodes n name)
  where
    go : (b : Bool) → length (cond b nodes (with_node (with_fields (λ fields. fields ++ added_field name t always ∷ [])) nodes n)) ≡ length nodes
    go true = refl
    go false = length_with (with_fields (λ fields. fields ++ added_field name t always ∷ [])) nodes n

pub length_moved : (place : Place) (nodes : List Node) (n c : ℕ) → length (moved place nodes n c) ≡ length nodes
length_moved place nodes n c = go (can_stand nodes n c)
  where
    go : (b : Bool) → length (cond b (standing place (left nodes c) n c) nodes) ≡ length nodes
    go true =
        length_with (with_parent (Some n)) (with_node (with_children (with_child place c)) (left nodes c) n) c
        ∙ length_with (with_children (with_child place c)) (left nodes c) n
        ∙ length_left nodes c
    go false = refl

pub length_inserted : (nodes : List Node) (n c : ℕ) (at : ℤ) → length (inserted nodes n c at) ≡ length nodes
length_inserted nodes n c (pos at) = length_moved (At at) nodes n c
length_inserted nodes n c (negsuc at) = refl

pub length_removed : (nodes : List Node) (n c : ℕ) → length (removed nodes n c) ≡ length nodes
length_removed nodes n c = go (is_child nodes n c)
  where
    go : (b : Bool) → length (cond b (with_node (with_parent None) (with_node (with_children (without c)) nodes n) c) nodes) ≡ length nodes
    go true = length_with (with_parent None) (with_node (with_children (without c)) nodes n) c ∙ length_with (with_children (without c)) nodes n
    go false = refl
